use Rattle.parse_outline.specs.Labels.{marks_behind}
use Rattle.parse_outline.proofs.Marking.{rows_fit}
use borrow.Author.Rules.{rules}
use Rattle.parse_outline.proofs.marks_behind.Goals as goal

pub overflow_add-result : goal.overflow_add-result
overflow_add-result c =
    search (rows_fit, rules)

pub returns : goal.returns
unfolding marks_behind
returns c =
    cc
