use Rattle.vm_quick_calls.proofs.Cases.{call-tests}
use Rattle.vm_quick_calls.proofs.is_call_good.Goals as goal

pub returns-then-k-gt-PARAMETERS : goal.returns-then-k-gt-PARAMETERS
returns-then-k-gt-PARAMETERS c =
    search call-tests

pub returns-then-callee_size-eq0 : goal.returns-then-callee_size-eq0
returns-then-callee_size-eq0 c =
    search call-tests

pub returns-then-calls_local : goal.returns-then-calls_local
returns-then-calls_local c =
    search call-tests

pub returns : goal.returns
returns c =
    search call-tests
