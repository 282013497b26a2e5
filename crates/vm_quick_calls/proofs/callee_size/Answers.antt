use Rattle.vm_quick_calls.proofs.Cases.{callees}
use Rattle.vm_quick_calls.proofs.callee_size.Goals as goal

pub returns-then-parameters_at-k : goal.returns-then-parameters_at-k
returns-then-parameters_at-k c =
    search callees

pub returns : goal.returns
returns c =
    search callees
