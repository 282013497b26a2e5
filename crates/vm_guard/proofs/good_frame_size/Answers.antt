use Rattle.vm_guard.proofs.FrameInUse.{frame-size-ways}
use Rattle.vm_guard.proofs.good_frame_size.Goals as goal

pub returns-then-c-next : goal.returns-then-c-next
returns-then-c-next c =
    search frame-size-ways

pub returns-then-is_frame_good : goal.returns-then-is_frame_good
returns-then-is_frame_good c =
    search frame-size-ways

pub returns : goal.returns
returns c =
    search frame-size-ways
