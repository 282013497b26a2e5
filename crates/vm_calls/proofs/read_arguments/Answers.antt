use Rattle.vm_calls.proofs.Reading.{reading, arguments-stop}
use Rattle.vm_quick_operands.proofs.Reading.{reading-more}
use Rattle.vm_calls.proofs.read_arguments.Goals as goal

pub loop-i-init : goal.loop-i-init
loop-i-init c =
    search reading

pub returns-in_err-words : goal.returns-in_err-words
returns-in_err-words c =
    rw c.from_residual.ensures
    (arguments-stop _ _ _ _ _ _ c.loop-i.words _ c.loop-i.invariant _ c.loop-i-test.true c.read_slot.ensures c.in_err-words.was)

pub loop-i-preserved : goal.loop-i-preserved
loop-i-preserved c =
    reading-more _ _ _ _ c.loop-i.words _ _ c.loop-i.invariant c.loop-i-test.true c.read_slot.ensures _ c.in_ok-words.was

pub returns : goal.returns
returns c =
    search reading
