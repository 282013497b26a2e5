use Rattle.vm_statements.proofs.Cases.{three-0, three-1, three-2, three-all}
use Rattle.vm_statements.proofs.read_three.Goals as goal

pub returns-in_err-base : goal.returns-in_err-base
returns-in_err-base c =
    rw c.from_residual.ensures (three-0 _ _ _ _ _ _ _ c.slot_at.ensures c.read_operand.ensures c.in_err-base.was)

pub returns-in_err-offset : goal.returns-in_err-offset
returns-in_err-offset c =
    rw c.from_residual-in_err-offset.ensures
    (three-1 _ _ _ _ _ _ _ c.slot_at.ensures c.read_operand.ensures _ _ _ c.in_ok-base.was c.slot_at-2.ensures c.read_operand-2.ensures c.in_err-offset.was)

pub returns-in_err-value : goal.returns-in_err-value
returns-in_err-value c =
    rw c.from_residual-in_err-value.ensures
    (three-2 _ _ _ _ _ _ _ c.slot_at.ensures c.read_operand.ensures _ _ _ c.in_ok-base.was c.slot_at-2.ensures c.read_operand-2.ensures
    _ _ _ c.in_ok-offset.was c.slot_at-3.ensures c.read_operand-3.ensures c.in_err-value.was)

pub returns : goal.returns
returns c =
    three-all _ _ _ _ _ _ _ c.slot_at.ensures c.read_operand.ensures _ _ _ c.in_ok-base.was c.slot_at-2.ensures c.read_operand-2.ensures
    _ _ _ c.in_ok-offset.was c.slot_at-3.ensures c.read_operand-3.ensures _ c.in_ok-value.was
