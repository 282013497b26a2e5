use Rattle.prog_scope.proofs.Cases.{parameter-ways}
use Rattle.prog_scope.proofs.is_parameter.Goals as goal

pub returns-then-w-ge-FRAME_HEAD : goal.returns-then-w-ge-FRAME_HEAD
returns-then-w-ge-FRAME_HEAD c =
    search parameter-ways

pub returns : goal.returns
returns c =
    search parameter-ways
