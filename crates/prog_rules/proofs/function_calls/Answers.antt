use Rattle.prog_rules.proofs.Goals.{calling}
use Rattle.prog_rules.proofs.function_calls.Goals as goal

pub returns-then-c-g : goal.returns-then-c-g
returns-then-c-g c =
    search calling

pub returns-then-is_callee : goal.returns-then-is_callee
returns-then-is_callee c =
    search calling

pub returns-then-is_call : goal.returns-then-is_call
returns-then-is_call c =
    search calling

pub returns : goal.returns
returns c =
    search calling
