use borrow.Author.Rules.{rules}
use Rattle.res_scope.proofs.Searches.{downward}
use Rattle.res_scope.proofs.Cases.{let-of}
use Rattle.res_scope.proofs.find_let.Goals as goal

pub loop-m-init : goal.loop-m-init
loop-m-init c =
    search (downward, rules)

pub returns-then-let_named : goal.returns-then-let_named
returns-then-let_named c =
    search (let-of, downward)

pub loop-m-preserved : goal.loop-m-preserved
loop-m-preserved c =
    search downward

pub returns : goal.returns
returns c =
    search (let-of, downward)
