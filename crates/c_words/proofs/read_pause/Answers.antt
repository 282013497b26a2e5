use Rattle.c_words.specs.Record.{pause_held}
use borrow.Author.Rules.{rules}
use Rattle.c_words.proofs.read_pause.Goals as goal

pub returns : goal.returns
unfolding pause_held
returns c =
    search rules
