use Rattle.prog_frames.proofs.Arms.{seeing}
use Rattle.prog_frames.proofs.is_seen.Goals as goal

pub returns-then-kind_at-eq-LET : goal.returns-then-kind_at-eq-LET
returns-then-kind_at-eq-LET c =
    search seeing

pub returns-else-kind_at-eq-LET : goal.returns-else-kind_at-eq-LET
returns-else-kind_at-eq-LET c =
    search seeing
