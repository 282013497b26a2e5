use Rattle.vm_quick_calls.proofs.Cases.{goods}
use Rattle.vm_quick_calls.proofs.are_good.Goals as goal

pub loop-i-init : goal.loop-i-init
loop-i-init c =
    search goods

pub returns-then-is_slot_bad : goal.returns-then-is_slot_bad
returns-then-is_slot_bad c =
    search goods

pub loop-i-preserved : goal.loop-i-preserved
loop-i-preserved c =
    search goods

pub returns : goal.returns
returns c =
    search goods
