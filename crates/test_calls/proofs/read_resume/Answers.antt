use Rattle.test_calls.proofs.Cases.{read-resume-ways}
use Rattle.test_calls.proofs.read_resume.Goals as goal

pub returns-then-has_values : goal.returns-then-has_values
returns-then-has_values c =
    search read-resume-ways

pub returns : goal.returns
returns c =
    search read-resume-ways
