use borrow.Author.Rules.{rules}
use Rattle.res_names.proofs.Folds.{operands, operands_same}
use Rattle.res_names.proofs.operands_part.Goals as goal

pub loop-i-init : goal.loop-i-init
loop-i-init c =
    search operands

pub loop-i-preserved : goal.loop-i-preserved
loop-i-preserved c =
    search operands

pub shape_of-u : goal.shape_of-u
shape_of-u c =
    search (operands_same, rules)

pub returns : goal.returns
returns c =
    search operands
