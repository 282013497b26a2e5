use Rattle.vm_calls.proofs.Cases.{back, resumed-low}
use native.Mathlib.Omega.{arith}
use mathlib.Core.Path.{refl}
use Rattle.vm_calls.proofs.hand_back.Goals as goal

pub overflow_add-call : goal.overflow_add-call
overflow_add-call c =
    omega (arith, resumed-low _ _ _ _ _ _ _ _ _ _ c.requires c.in-Caller.ensures refl)

pub returns-in-Ends : goal.returns-in-Ends
returns-in-Ends c =
    search back

pub returns-in-Caller : goal.returns-in-Caller
returns-in-Caller c =
    search back
