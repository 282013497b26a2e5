use Rattle.test_state.proofs.Cases.{read-answer-ways}
use Rattle.test_state.proofs.read_answer.Goals as goal

pub returns-then-size-eq0 : goal.returns-then-size-eq0
returns-then-size-eq0 c =
    search read-answer-ways

pub returns : goal.returns
returns c =
    search read-answer-ways
