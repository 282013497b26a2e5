use Rattle.prog_faults.proofs.Cases.{word-ways}
use Rattle.prog_faults.proofs.own_word.Goals as goal

pub returns-then-k-eq-BLOCK : goal.returns-then-k-eq-BLOCK
returns-then-k-eq-BLOCK c =
    search word-ways

pub returns : goal.returns
returns c =
    search word-ways
