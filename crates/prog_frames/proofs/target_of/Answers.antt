use Rattle.prog_frames.proofs.Arms.{aiming}
use Rattle.prog_frames.proofs.target_of.Goals as goal

pub returns-then-j-eq-END_IF : goal.returns-then-j-eq-END_IF
returns-then-j-eq-END_IF c =
    search aiming

pub returns-then-is_test : goal.returns-then-is_test
returns-then-is_test c =
    search aiming

pub returns : goal.returns
returns c =
    search aiming
