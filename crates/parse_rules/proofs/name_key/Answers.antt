use Rattle.parse_rules.proofs.Cases.{names}
use Rattle.parse_rules.proofs.name_key.Goals as goal

pub returns-then-i-own : goal.returns-then-i-own
returns-then-i-own c =
    search names

pub returns : goal.returns
returns c =
    search names
