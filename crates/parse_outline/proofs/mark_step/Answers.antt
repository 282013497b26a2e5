use Rattle.parse_outline.proofs.Marking.{stepping, step-near, step_small, marks-few, marks-rows}
use borrow.Author.Rules.{rules}
use Rattle.parse_outline.proofs.mark_step.Goals as goal

pub line_kind-k-requires : goal.line_kind-k-requires
line_kind-k-requires c =
    search (step_small, rules)

pub mark_unit-c-requires : goal.mark_unit-c-requires
mark_unit-c-requires c =
    search (step-near, marks-few, rules)

pub returns-then-k-eq-EDGE : goal.returns-then-k-eq-EDGE
returns-then-k-eq-EDGE c =
    search stepping

pub marks_behind-requires : goal.marks_behind-requires
marks_behind-requires c =
    search (marks-rows, rules)

pub returns : goal.returns
returns c =
    search stepping
