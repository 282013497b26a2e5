use Rattle.vm_operands.proofs.Cases.{reserve-past, reserve-in}
use native.Mathlib.Omega.{arith}
use Rattle.vm_operands.proofs.reserve.Goals as goal

pub returns-then-n-end : goal.returns-then-n-end
returns-then-n-end c =
    reserve-past _ _ _ (omega arith)

pub returns : goal.returns
returns c =
    reserve-in _ _ _ _ _ (omega arith) (omega arith) (omega arith)
