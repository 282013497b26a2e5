use Rattle.vm_quick_statements.proofs.Cases.{ends}
use Rattle.vm_quick_statements.proofs.leave_block.Goals as goal

pub returns-then-size-a : goal.returns-then-size-a
returns-then-size-a c =
    search ends

pub returns-then-m-top : goal.returns-then-m-top
returns-then-m-top c =
    search ends

pub returns : goal.returns
returns c =
    search ends
