use Rattle.vm_run.proofs.Cases.{plain-ends}
use Rattle.vm_run.proofs.end_plain.Goals as goal

pub returns-then-count-gt0 : goal.returns-then-count-gt0
returns-then-count-gt0 c =
    search plain-ends

pub returns-in-Some : goal.returns-in-Some
returns-in-Some c =
    search plain-ends

pub returns-else-count-gt0 : goal.returns-else-count-gt0
returns-else-count-gt0 c =
    search (plain-ends, c.requires)
