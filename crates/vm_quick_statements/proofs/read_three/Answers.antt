use Rattle.vm_quick_statements.proofs.Cases.{threes}
use Rattle.vm_quick_statements.proofs.read_three.Goals as goal

pub returns-in_err-base : goal.returns-in_err-base
returns-in_err-base c =
    rw c.from_residual.ensures (search (threes, c.in_err-base.was))

pub returns-in_err-offset : goal.returns-in_err-offset
returns-in_err-offset c =
    rw c.from_residual-in_err-offset.ensures (search (threes, c.in_ok-base.was, c.in_err-offset.was))

pub returns-in_err-value : goal.returns-in_err-value
returns-in_err-value c =
    rw c.from_residual-in_err-value.ensures (search (threes, c.in_ok-base.was, c.in_ok-offset.was, c.in_err-value.was))

pub returns : goal.returns
returns c =
    search (threes, c.in_ok-base.was, c.in_ok-offset.was, c.in_ok-value.was)
