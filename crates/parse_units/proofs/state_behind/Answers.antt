use Rattle.parse_units.proofs.Bounds.{labels-add}
use Rattle.parse_units.specs.Parse.{state_behind}
use borrow.Author.Rules.{rules}
use Rattle.parse_units.proofs.state_behind.Goals as goal

pub overflow_add-result : goal.overflow_add-result
overflow_add-result c =
    search (labels-add, rules)

pub returns : goal.returns
unfolding state_behind
returns c =
    cc
