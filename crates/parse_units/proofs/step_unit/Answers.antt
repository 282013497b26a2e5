use Rattle.parse_units.proofs.UnitSteps.{unit-stepping, unit-step-fits, unit-fits, unit-small}
use borrow.Author.Rules.{rules}
use Rattle.parse_units.proofs.step_unit.Goals as goal

pub line_kind-k-requires : goal.line_kind-k-requires
line_kind-k-requires c =
    search (unit-small, rules)

pub unit_fault-f-requires : goal.unit_fault-f-requires
unit_fault-f-requires c =
    search (unit-fits, rules)

pub returns-then-f-lt1099511627776 : goal.returns-then-f-lt1099511627776
returns-then-f-lt1099511627776 c =
    search unit-stepping

pub returns-then-k-eq-EDGE : goal.returns-then-k-eq-EDGE
returns-then-k-eq-EDGE c =
    search unit-stepping

pub step_on-requires : goal.step_on-requires
step_on-requires c =
    unit-step-fits _ _ _ _ _ _ _ _ _ _ _ c.unit_at-u.ensures c.line_kind-k.ensures c.row_at-o.ensures c.ground_in-g.ensures c.line_on.ensures c.unit_fault-f.ensures (search rules) (search rules)

pub returns : goal.returns
returns c =
    search unit-stepping
