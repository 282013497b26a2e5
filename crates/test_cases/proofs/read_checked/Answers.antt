use Rattle.test_cases.proofs.Cases.{read-checked-ways}
use Rattle.test_cases.proofs.read_checked.Goals as goal

pub returns-then-is_answer : goal.returns-then-is_answer
returns-then-is_answer c =
    search read-checked-ways

pub returns-then-q-gt0 : goal.returns-then-q-gt0
returns-then-q-gt0 c =
    search read-checked-ways

pub returns-then-is_call : goal.returns-then-is_call
returns-then-is_call c =
    search read-checked-ways

pub returns-then-is_view : goal.returns-then-is_view
returns-then-is_view c =
    search read-checked-ways

pub returns : goal.returns
returns c =
    search read-checked-ways
