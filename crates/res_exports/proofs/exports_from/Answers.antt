use borrow.Author.Rules.{rules}
use Rattle.res_exports.proofs.Units.{exporting, exporting-less, exporting-fits, exporting-same}
use Rattle.res_exports.proofs.exports_from.Goals as goal

pub loop-x-init : goal.loop-x-init
loop-x-init c =
    search exporting

pub export_step-requires : goal.export_step-requires
export_step-requires c =
    search exporting-fits

pub loop-x-smaller : goal.loop-x-smaller
loop-x-smaller c =
    search exporting-less

pub loop-x-preserved : goal.loop-x-preserved
loop-x-preserved c =
    search exporting

pub shape_of-flags-in-Break : goal.shape_of-flags-in-Break
shape_of-flags-in-Break c =
    search (exporting-same, rules)

pub returns-in-Break : goal.returns-in-Break
returns-in-Break c =
    search exporting
