use Rattle.base_prelude.proofs.Choice.{tests}
use Rattle.prog_tables.specs.Faults.{has_word}
use Rattle.prog_faults.proofs.has_word.Goals as goal

pub returns-then-k-lt-BLOCK : goal.returns-then-k-lt-BLOCK
unfolding has_word
returns-then-k-lt-BLOCK c =
    search tests

pub returns : goal.returns
unfolding has_word
returns c =
    search tests
