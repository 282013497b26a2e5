use Rattle.res_exports.proofs.Units.{exports-are, first_fits}
use borrow.Author.Rules.{rules}
use Rattle.res_exports.proofs.judge_exports.Goals as goal

pub exports_from-requires : goal.exports_from-requires
exports_from-requires c =
    search (first_fits, rules)

pub returns : goal.returns
returns c =
    search exports-are
