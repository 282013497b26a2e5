use Rattle.res_exports.proofs.Units.{seek_is, step_small}
use borrow.Author.Rules.{rules}
use Rattle.res_exports.proofs.seek_step.Goals as goal

pub line_kind-k-requires : goal.line_kind-k-requires
line_kind-k-requires c =
    search (step_small, rules)

pub returns : goal.returns
returns c =
    search seek_is
