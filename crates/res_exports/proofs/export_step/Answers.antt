use Rattle.res_exports.proofs.Units.{stepping, step_small, step-near, step-next}
use borrow.Author.Rules.{rules}
use Rattle.res_exports.proofs.export_step.Goals as goal

pub line_kind-k-requires : goal.line_kind-k-requires
line_kind-k-requires c =
    search (step_small, rules)

pub returns-then-k-eq-EDGE : goal.returns-then-k-eq-EDGE
returns-then-k-eq-EDGE c =
    search stepping

pub export_part-best-requires : goal.export_part-best-requires
export_part-best-requires c =
    search (step-near, step-next, rules)

pub returns : goal.returns
returns c =
    search stepping
