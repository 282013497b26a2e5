use Rattle.vm_quick_calls.proofs.Cases.{anys}
use Rattle.vm_quick_calls.proofs.calls_any.Goals as goal

pub returns-then-k-eq-RETURN : goal.returns-then-k-eq-RETURN
returns-then-k-eq-RETURN c =
    search anys

pub returns : goal.returns
returns c =
    search anys
