use Rattle.test_text.proofs.Cases.{state-names}
use Rattle.test_text.proofs.is_state_poke.Goals as goal

pub returns-then-has_word : goal.returns-then-has_word
returns-then-has_word c =
    search state-names

pub returns-then-has_word-2 : goal.returns-then-has_word-2
returns-then-has_word-2 c =
    search state-names

pub returns-then-has_word-3 : goal.returns-then-has_word-3
returns-then-has_word-3 c =
    search state-names

pub returns-then-has_word-4 : goal.returns-then-has_word-4
returns-then-has_word-4 c =
    search state-names

pub returns : goal.returns
returns c =
    search state-names
