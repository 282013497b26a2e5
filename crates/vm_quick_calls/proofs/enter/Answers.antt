use Rattle.vm_quick_calls.proofs.Cases.{entering}
use Rattle.vm_quick_calls.proofs.enter.Goals as goal

pub returns-then-st-at : goal.returns-then-st-at
returns-then-st-at c =
    search entering

pub returns-in_err-words : goal.returns-in_err-words
returns-in_err-words c =
    rw c.from_residual.ensures (search (entering, c.in_err-words.was))

pub returns : goal.returns
returns c =
    search (entering, c.in_ok-words.was)
