use Rattle.vm_quick_calls.proofs.Cases.{results}
use Rattle.vm_quick_calls.proofs.result.Goals as goal

pub returns-then-k-eq-END_FUNCTION : goal.returns-then-k-eq-END_FUNCTION
returns-then-k-eq-END_FUNCTION c =
    search results

pub returns-then-e-eq-NONE : goal.returns-then-e-eq-NONE
returns-then-e-eq-NONE c =
    search results

pub returns-then-k-eq-RETURN : goal.returns-then-k-eq-RETURN
returns-then-k-eq-RETURN c =
    search results

pub returns : goal.returns
returns c =
    search results
