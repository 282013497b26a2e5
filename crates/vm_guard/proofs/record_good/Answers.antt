use Rattle.vm_guard.proofs.Cases.{record-ways}
use Rattle.vm_guard.proofs.record_good.Goals as goal

pub returns-then-has_head : goal.returns-then-has_head
returns-then-has_head c =
    search record-ways

pub returns-then-has_shape : goal.returns-then-has_shape
returns-then-has_shape c =
    search record-ways

pub returns : goal.returns
returns c =
    search record-ways
