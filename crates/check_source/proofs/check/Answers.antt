use Rattle.check_source.proofs.Cases.{check-ways, check-room}
use mathlib.Core.Path.{refl}
use Rattle.check_source.proofs.check.Goals as goal

pub fill-requires : goal.fill-requires
fill-requires c =
    check-room _ _ _ _ _ _ _ _ _ _ _ _ _ _ _ refl c.has_room.ensures c.if-has_room.true c.in-Ok.ensures

pub returns-then-has_room : goal.returns-then-has_room
returns-then-has_room c =
    search check-ways

pub returns-else-has_room : goal.returns-else-has_room
returns-else-has_room c =
    search check-ways

pub returns-in-Err : goal.returns-in-Err
returns-in-Err c =
    search check-ways
