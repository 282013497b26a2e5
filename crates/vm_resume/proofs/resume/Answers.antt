use Rattle.vm_resume.proofs.Cases.{resuming}
use Rattle.vm_resume.proofs.resume.Goals as goal

pub returns-then-is_paused : goal.returns-then-is_paused
returns-then-is_paused c =
    search resuming

pub returns : goal.returns
returns c =
    search resuming
