use Rattle.prog_rules.proofs.Goals.{call-ways}
use Rattle.prog_rules.proofs.calls.Goals as goal

pub returns-then-function_calls : goal.returns-then-function_calls
returns-then-function_calls c =
    search call-ways

pub returns-else-function_calls : goal.returns-else-function_calls
returns-else-function_calls c =
    rw c.if-function_calls.false (search call-ways)
