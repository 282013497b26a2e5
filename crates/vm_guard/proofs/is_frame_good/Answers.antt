use Rattle.vm_guard.proofs.FrameInUse.{frame-good-ways}
use Rattle.vm_guard.proofs.is_frame_good.Goals as goal

pub returns-then-m-top : goal.returns-then-m-top
returns-then-m-top c =
    search frame-good-ways

pub returns-then-m-gt-MEMORY_BYTES : goal.returns-then-m-gt-MEMORY_BYTES
returns-then-m-gt-MEMORY_BYTES c =
    search frame-good-ways

pub returns-then-st-gt-STACK_WORDS : goal.returns-then-st-gt-STACK_WORDS
returns-then-st-gt-STACK_WORDS c =
    search frame-good-ways

pub returns-then-st-used : goal.returns-then-st-used
returns-then-st-used c =
    search frame-good-ways

pub returns-then-end-used : goal.returns-then-end-used
returns-then-end-used c =
    search frame-good-ways

pub returns : goal.returns
returns c =
    search frame-good-ways
