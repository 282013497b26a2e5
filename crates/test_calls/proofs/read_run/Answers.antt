use Rattle.test_calls.proofs.Cases.{read-run-ways}
use Rattle.test_calls.proofs.read_run.Goals as goal

pub returns-then-is_digits : goal.returns-then-is_digits
returns-then-is_digits c =
    search read-run-ways

pub returns : goal.returns
returns c =
    search read-run-ways
