use Rattle.prog_frames.proofs.Arms.{armed}
use Rattle.prog_frames.proofs.is_end_if.Goals as goal

pub returns-then-up_at-u : goal.returns-then-up_at-u
returns-then-up_at-u c =
    search armed

pub returns-else-up_at-u : goal.returns-else-up_at-u
returns-else-up_at-u c =
    search armed
