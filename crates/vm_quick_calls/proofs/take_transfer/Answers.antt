use Rattle.vm_quick_calls.proofs.Cases.{transferring}
use Rattle.vm_quick_calls.proofs.take_transfer.Goals as goal

pub returns-then-c-n : goal.returns-then-c-n
returns-then-c-n c =
    search transferring

pub returns-then-calls_any : goal.returns-then-calls_any
returns-then-calls_any c =
    search transferring

pub returns-then-k-eq-TAIL_CALL : goal.returns-then-k-eq-TAIL_CALL
returns-then-k-eq-TAIL_CALL c =
    search transferring

pub returns-then-own-g : goal.returns-then-own-g
returns-then-own-g c =
    search transferring

pub returns : goal.returns
returns c =
    search transferring
