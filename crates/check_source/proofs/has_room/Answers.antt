use Rattle.check_source.proofs.Cases.{room-ways}
use Rattle.check_source.proofs.has_room.Goals as goal

pub returns-then-tokens-p : goal.returns-then-tokens-p
returns-then-tokens-p c =
    search room-ways

pub returns-then-statements-p : goal.returns-then-statements-p
returns-then-statements-p c =
    search room-ways

pub returns-then-labels-p : goal.returns-then-labels-p
returns-then-labels-p c =
    search room-ways

pub returns-then-names-p : goal.returns-then-names-p
returns-then-names-p c =
    search room-ways

pub returns-then-bytes-p : goal.returns-then-bytes-p
returns-then-bytes-p c =
    search room-ways

pub returns : goal.returns
returns c =
    search room-ways
