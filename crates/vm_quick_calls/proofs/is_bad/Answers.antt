use Rattle.vm_quick_calls.proofs.Cases.{bads}
use Rattle.vm_quick_calls.proofs.is_bad.Goals as goal

pub returns-in-1 : goal.returns-in-1
returns-in-1 c =
    search bads

pub returns-in-2 : goal.returns-in-2
returns-in-2 c =
    search bads

pub returns-in-3 : goal.returns-in-3
returns-in-3 c =
    search bads

pub returns-in-4 : goal.returns-in-4
returns-in-4 c =
    search bads

pub returns-in-5 : goal.returns-in-5
returns-in-5 c =
    search bads

pub returns-in-6 : goal.returns-in-6
returns-in-6 c =
    search bads

pub returns-in_default : goal.returns-in_default
returns-in_default c =
    search bads
