use Rattle.vm_guard.proofs.Cases.{calling-ways}
use Rattle.vm_guard.proofs.is_calling.Goals as goal

pub returns-then-k-eq-CALL : goal.returns-then-k-eq-CALL
returns-then-k-eq-CALL c =
    search calling-ways

pub returns-then-has_expression : goal.returns-then-has_expression
returns-then-has_expression c =
    search calling-ways

pub returns : goal.returns
returns c =
    search calling-ways
