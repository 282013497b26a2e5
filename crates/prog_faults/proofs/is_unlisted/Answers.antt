use Rattle.prog_faults.proofs.Cases.{expression-ways}
use Rattle.prog_faults.proofs.is_unlisted.Goals as goal

pub returns-then-is_call_expression : goal.returns-then-is_call_expression
returns-then-is_call_expression c =
    search expression-ways

pub returns-then-is_call_row : goal.returns-then-is_call_row
returns-then-is_call_row c =
    search expression-ways

pub returns-then-is_expression : goal.returns-then-is_expression
returns-then-is_expression c =
    search expression-ways

pub returns-then-has_expression : goal.returns-then-has_expression
returns-then-has_expression c =
    search expression-ways

pub returns : goal.returns
returns c =
    search expression-ways
