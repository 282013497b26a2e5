use borrow.Author.Rules.{rules}
use Rattle.prog_scope.proofs.Loops.{counting, noting-long}
use Rattle.prog_scope.proofs.count_lets.Goals as goal

pub loop-n-init : goal.loop-n-init
loop-n-init c =
    search (counting, rules)

pub note_let-requires : goal.note_let-requires
note_let-requires c =
    search (counting, rules)

pub loop-n-preserved : goal.loop-n-preserved
loop-n-preserved c =
    search (counting, rules)

pub shape_of-y : goal.shape_of-y
shape_of-y c =
    search noting-long

pub returns : goal.returns
returns c =
    search (counting, rules)
