use Rattle.vm_quick_calls.proofs.Cases.{locals}
use Rattle.vm_quick_calls.proofs.calls_local.Goals as goal

pub returns-in-11 : goal.returns-in-11
returns-in-11 c =
    search locals

pub returns-in-5 : goal.returns-in-5
returns-in-5 c =
    search locals

pub returns-in-6 : goal.returns-in-6
returns-in-6 c =
    search locals

pub returns-in_default : goal.returns-in_default
returns-in_default c =
    search locals

pub returns : goal.returns
returns c =
    search locals
