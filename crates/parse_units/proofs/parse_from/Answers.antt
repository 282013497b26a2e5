use borrow.Author.Rules.{rules}
use Rattle.parse_units.proofs.UnitSteps.{parsing, parsing-less, parsing-fits}
use Rattle.parse_units.proofs.parse_from.Goals as goal

pub loop-x-init : goal.loop-x-init
loop-x-init c =
    search (parsing, rules)

pub step_unit-requires : goal.step_unit-requires
step_unit-requires c =
    search parsing-fits

pub loop-x-smaller : goal.loop-x-smaller
loop-x-smaller c =
    search parsing-less

pub loop-x-preserved : goal.loop-x-preserved
loop-x-preserved c =
    search parsing

pub returns-in-Break : goal.returns-in-Break
returns-in-Break c =
    search parsing
