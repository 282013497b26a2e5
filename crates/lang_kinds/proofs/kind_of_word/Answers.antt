use Rattle.std.proofs.Common.{arith}
use Rattle.lang_kinds.specs.Nesting.{kind_of_word}
use Rattle.lang_kinds.proofs.kind_of_word.Goals as goal

pub returns-in-Some : goal.returns-in-Some
unfolding kind_of_word
returns-in-Some c =
    c.in-Some.ensures.lookup.3.1 35

pub returns-in-None : goal.returns-in-None
unfolding kind_of_word
returns-in-None c =
    c.in-None.ensures.lookup.4 (omega arith) 35
