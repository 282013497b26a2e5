use Rattle.prog_scope.proofs.Cases.{firsts}
use borrow.Author.Rules.{rules}
use Rattle.prog_scope.proofs.first_word.Goals as goal

pub returns-then-k-eq-BLOCK : goal.returns-then-k-eq-BLOCK
returns-then-k-eq-BLOCK c =
    search (firsts, rules)

pub returns : goal.returns
returns c =
    search (firsts, rules)
