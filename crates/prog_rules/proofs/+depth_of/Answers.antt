use Rattle.std.proofs.Common.{rules}
use Rattle.prog_rules.proofs.Rows.{depths}
use Rattle.prog_rules.proofs.+depth_of.Goals as goal

pub returns-then-fuel-eq0 : goal.returns-then-fuel-eq0
returns-then-fuel-eq0 t c =
    search (depths, rules)

pub returns-then-k-eq-BLOCK : goal.returns-then-k-eq-BLOCK
returns-then-k-eq-BLOCK t c =
    search (depths, rules)

pub returns : goal.returns
returns t c =
    search (depths, rules)
