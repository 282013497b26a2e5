use Rattle.test_text.proofs.Cases.{state-pokes}
use Rattle.test_text.proofs.poke_state.Goals as goal

pub returns-then-has_word : goal.returns-then-has_word
returns-then-has_word c =
    search state-pokes

pub returns-then-has_word-2 : goal.returns-then-has_word-2
returns-then-has_word-2 c =
    search state-pokes

pub returns-then-has_word-3 : goal.returns-then-has_word-3
returns-then-has_word-3 c =
    search state-pokes

pub returns : goal.returns
returns c =
    search state-pokes
