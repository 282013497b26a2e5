use Rattle.vm_quick_calls.proofs.Cases.{calling}
use Rattle.vm_quick_calls.proofs.call_at.Goals as goal

pub returns-then-k-gt-PARAMETERS : goal.returns-then-k-gt-PARAMETERS
returns-then-k-gt-PARAMETERS c =
    search calling

pub returns-then-c-p : goal.returns-then-c-p
returns-then-c-p c =
    search calling

pub returns-then-z-eq0 : goal.returns-then-z-eq0
returns-then-z-eq0 c =
    search calling

pub returns : goal.returns
returns c =
    search calling
