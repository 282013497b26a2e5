use Rattle.vm_resume.proofs.Cases.{going-ways}
use Rattle.vm_resume.proofs.go_on.Goals as goal

pub returns-then-count_fault : goal.returns-then-count_fault
returns-then-count_fault c =
    search going-ways

pub returns : goal.returns
returns c =
    search going-ways
