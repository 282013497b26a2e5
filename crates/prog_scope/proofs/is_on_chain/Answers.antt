use borrow.Author.Rules.{rules}
use Rattle.prog_scope.proofs.Loops.{climbing}
use Rattle.prog_scope.proofs.is_on_chain.Goals as goal

pub loop-init : goal.loop-init
loop-init c =
    search (climbing, rules)

pub returns-then-is_held : goal.returns-then-is_held
returns-then-is_held c =
    search (climbing, rules)

pub returns-then-k-ne-BLOCK : goal.returns-then-k-ne-BLOCK
returns-then-k-ne-BLOCK c =
    search (climbing, rules)

pub loop-preserved : goal.loop-preserved
loop-preserved c =
    search (climbing, rules)

pub returns : goal.returns
returns c =
    search (climbing, rules)
