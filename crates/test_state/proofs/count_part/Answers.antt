use Rattle.test_state.proofs.Cases.{count-part-ways}
use Rattle.test_state.proofs.count_part.Goals as goal

pub returns-then-has_word : goal.returns-then-has_word
returns-then-has_word c =
    search count-part-ways

pub returns-then-has_word-2 : goal.returns-then-has_word-2
returns-then-has_word-2 c =
    search count-part-ways

pub returns-then-has_word-3 : goal.returns-then-has_word-3
returns-then-has_word-3 c =
    search count-part-ways

pub returns : goal.returns
returns c =
    search count-part-ways
