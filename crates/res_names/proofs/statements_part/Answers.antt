use borrow.Author.Rules.{rules}
use Rattle.res_names.proofs.Folds.{statements, statements-same}
use Rattle.res_names.proofs.statements_part.Goals as goal

pub loop-r-init : goal.loop-r-init
loop-r-init c =
    search statements

pub loop-r-preserved : goal.loop-r-preserved
loop-r-preserved c =
    search statements

pub shape_of-u : goal.shape_of-u
shape_of-u c =
    search (statements-same, rules)

pub returns : goal.returns
returns c =
    search statements
