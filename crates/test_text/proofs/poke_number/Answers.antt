use Rattle.test_text.proofs.Cases.{pokes}
use Rattle.test_text.proofs.poke_number.Goals as goal

pub returns-then-has_word : goal.returns-then-has_word
returns-then-has_word c =
    search pokes

pub returns-then-has_word-2 : goal.returns-then-has_word-2
returns-then-has_word-2 c =
    search pokes

pub returns-then-has_word-3 : goal.returns-then-has_word-3
returns-then-has_word-3 c =
    search pokes

pub returns-then-has_word-4 : goal.returns-then-has_word-4
returns-then-has_word-4 c =
    search pokes

pub returns : goal.returns
returns c =
    search pokes
