use Rattle.prog_rules.proofs.Goals.{call-rules}
use Rattle.prog_rules.proofs.call_rules.Goals as goal

pub returns-then-not-calls : goal.returns-then-not-calls
returns-then-not-calls c =
    search call-rules

pub returns-then-is_shaped : goal.returns-then-is_shaped
returns-then-is_shaped c =
    search call-rules

pub returns-else-is_shaped : goal.returns-else-is_shaped
returns-else-is_shaped c =
    rw c.if-is_shaped.false (search call-rules)
