use Rattle.vm_quick_statements.proofs.Cases.{tests}
use Rattle.vm_quick_statements.proofs.test.Goals as goal

pub returns-in_err-x : goal.returns-in_err-x
returns-in_err-x c =
    rw c.from_residual.ensures (search (tests, c.in_err-x.was))

pub returns-in_err-y : goal.returns-in_err-y
returns-in_err-y c =
    rw c.from_residual-in_err-y.ensures (search (tests, c.in_ok-x.was, c.in_err-y.was))

pub returns-then-is_aimed : goal.returns-then-is_aimed
returns-then-is_aimed c =
    search (tests, c.in_ok-x.was, c.in_ok-y.was)

pub returns : goal.returns
returns c =
    search tests
