use Rattle.prog_scope.proofs.Cases.{scope-ways}
use borrow.Author.Rules.{rules}
use Rattle.prog_scope.proofs.scope_size.Goals as goal

pub returns : goal.returns
returns c =
    search (scope-ways, rules)
