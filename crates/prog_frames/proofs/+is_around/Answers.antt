use Rattle.prog_frames.proofs.Arms.{around}
use Rattle.prog_frames.proofs.+is_around.Goals as goal

pub returns-then-fuel-eq0 : goal.returns-then-fuel-eq0
returns-then-fuel-eq0 t c =
    search around

pub returns-then-s-e : goal.returns-then-s-e
returns-then-s-e t c =
    search around

pub returns-then-kind_at-eq-BLOCK : goal.returns-then-kind_at-eq-BLOCK
returns-then-kind_at-eq-BLOCK t c =
    search around

pub returns-else-kind_at-eq-BLOCK : goal.returns-else-kind_at-eq-BLOCK
returns-else-kind_at-eq-BLOCK t c =
    search around
