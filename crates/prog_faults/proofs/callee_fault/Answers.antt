use Rattle.prog_faults.proofs.Cases.{callee-ways}
use Rattle.prog_faults.proofs.callee_fault.Goals as goal

pub returns-then-function_fault : goal.returns-then-function_fault
returns-then-function_fault c =
    search callee-ways

pub returns : goal.returns
returns c =
    search callee-ways
