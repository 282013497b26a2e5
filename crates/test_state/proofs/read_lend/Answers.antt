use Rattle.test_state.proofs.Cases.{read-lend-ways}
use Rattle.test_state.proofs.read_lend.Goals as goal

pub returns-then-count_fields-ne3 : goal.returns-then-count_fields-ne3
returns-then-count_fields-ne3 c =
    search read-lend-ways

pub returns-then-has_word : goal.returns-then-has_word
returns-then-has_word c =
    search read-lend-ways

pub returns-then-has_word-2 : goal.returns-then-has_word-2
returns-then-has_word-2 c =
    search read-lend-ways

pub returns-then-has_word-3 : goal.returns-then-has_word-3
returns-then-has_word-3 c =
    search read-lend-ways

pub returns-then-has_word-4 : goal.returns-then-has_word-4
returns-then-has_word-4 c =
    search read-lend-ways

pub returns : goal.returns
returns c =
    search read-lend-ways
