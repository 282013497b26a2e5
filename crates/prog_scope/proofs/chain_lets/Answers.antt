use borrow.Author.Rules.{rules}
use Rattle.prog_scope.proofs.Loops.{summing}
use Rattle.prog_scope.proofs.chain_lets.Goals as goal

pub loop-init : goal.loop-init
loop-init c =
    search (summing, rules)

pub returns-then-k-ne-BLOCK : goal.returns-then-k-ne-BLOCK
returns-then-k-ne-BLOCK c =
    search (summing, rules)

pub loop-preserved : goal.loop-preserved
loop-preserved c =
    search (summing, rules)

pub returns : goal.returns
returns c =
    search (summing, rules)
