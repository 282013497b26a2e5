use Rattle.vm_guard.proofs.Cases.{return-ways}
use Rattle.vm_guard.proofs.is_return.Goals as goal

pub returns-then-k-eq-END_FUNCTION : goal.returns-then-k-eq-END_FUNCTION
returns-then-k-eq-END_FUNCTION c =
    search return-ways

pub returns-then-is_call_expression : goal.returns-then-is_call_expression
returns-then-is_call_expression c =
    search return-ways

pub returns-then-k-eq-RETURN : goal.returns-then-k-eq-RETURN
returns-then-k-eq-RETURN c =
    search return-ways

pub returns : goal.returns
returns c =
    search return-ways
