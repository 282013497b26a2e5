use Rattle.prog_frames.proofs.Cases.{inside}
use Rattle.prog_frames.proofs.is_in.Goals as goal

pub returns-then-kind_at-k : goal.returns-then-kind_at-k
returns-then-kind_at-k c =
    search inside

pub returns-else-kind_at-k : goal.returns-else-kind_at-k
returns-else-kind_at-k c =
    search inside
