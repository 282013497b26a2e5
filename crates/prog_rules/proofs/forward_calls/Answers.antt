use Rattle.prog_rules.proofs.Goals.{forward}
use Rattle.prog_rules.proofs.forward_calls.Goals as goal

pub returns-then-n-g : goal.returns-then-n-g
returns-then-n-g c =
    search forward

pub returns-then-is_call : goal.returns-then-is_call
returns-then-is_call c =
    search forward

pub returns : goal.returns
returns c =
    search forward
