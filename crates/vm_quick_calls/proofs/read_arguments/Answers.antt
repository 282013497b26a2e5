use Rattle.vm_quick_calls.proofs.Cases.{arguments}
use Rattle.vm_quick_calls.proofs.read_arguments.Goals as goal

pub loop-i-init : goal.loop-i-init
loop-i-init c =
    search arguments

pub returns-in_err-words : goal.returns-in_err-words
returns-in_err-words c =
    rw c.from_residual.ensures (search (arguments, c.in_err-words.was))

pub loop-i-preserved : goal.loop-i-preserved
loop-i-preserved c =
    search (arguments, c.in_ok-words.was)

pub returns : goal.returns
returns c =
    search arguments
