use Rattle.vm_quick_calls.proofs.Cases.{resumptions}
use Rattle.vm_quick_calls.proofs.resume.Goals as goal
use Rattle.vm_quick_calls.proofs.resume.Goals.{then-k-ne-CALL, else-k-ne-CALL}

pub returns : goal.returns
returns c =
    elim c.if-k-ne-CALL.branch [
      | then-k-ne-CALL w ↦ rw w.st-is (search resumptions)
      | else-k-ne-CALL w ↦ rw w.st-is (search resumptions)
    ]
