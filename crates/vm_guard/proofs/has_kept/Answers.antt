use Rattle.vm_guard.proofs.Cases.{kept-ways}
use Rattle.vm_guard.proofs.has_kept.Goals as goal

pub returns-then-k-eq-END_BLOCK : goal.returns-then-k-eq-END_BLOCK
returns-then-k-eq-END_BLOCK c =
    search kept-ways

pub returns-then-leaves_frame : goal.returns-then-leaves_frame
returns-then-leaves_frame c =
    search kept-ways

pub returns-then-k-eq-TAIL_CALL : goal.returns-then-k-eq-TAIL_CALL
returns-then-k-eq-TAIL_CALL c =
    search kept-ways

pub returns : goal.returns
returns c =
    search kept-ways
