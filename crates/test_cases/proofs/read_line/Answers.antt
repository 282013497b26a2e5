use Rattle.test_cases.proofs.Cases.{read-line-ways}
use Rattle.test_cases.proofs.read_line.Goals as goal

pub returns-then-is_text : goal.returns-then-is_text
returns-then-is_text c =
    search read-line-ways

pub returns-then-starts_with : goal.returns-then-starts_with
returns-then-starts_with c =
    search read-line-ways

pub returns-then-starts_with-2 : goal.returns-then-starts_with-2
returns-then-starts_with-2 c =
    search read-line-ways

pub returns : goal.returns
returns c =
    search read-line-ways
