use Rattle.vm_guard.proofs.Cases.{frames-ways}
use Rattle.vm_guard.proofs.find_frames.Goals as goal

pub returns-then-frame_ends : goal.returns-then-frame_ends
returns-then-frame_ends c =
    search frames-ways

pub returns-then-leaves_frame : goal.returns-then-leaves_frame
returns-then-leaves_frame c =
    search frames-ways

pub returns : goal.returns
returns c =
    search frames-ways
