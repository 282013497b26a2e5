use Rattle.parse_units.proofs.Cases.{picks}
use Rattle.parse_units.proofs.frame_of.Goals as goal

pub returns-then-is_frame : goal.returns-then-is_frame
returns-then-is_frame c =
    search picks

pub returns : goal.returns
returns c =
    search picks
