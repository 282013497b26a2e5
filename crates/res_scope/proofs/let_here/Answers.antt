use borrow.Author.Rules.{rules}
use Rattle.res_scope.proofs.Cases.{lets, first-room}
use Rattle.res_scope.proofs.let_here.Goals as goal

pub overflow_add-first_token : goal.overflow_add-first_token
overflow_add-first_token c =
    search (lets, first-room, rules)

pub returns-then-is_in : goal.returns-then-is_in
returns-then-is_in c =
    search (lets, first-room, rules)

pub returns-else-is_in : goal.returns-else-is_in
returns-else-is_in c =
    search (lets, first-room, rules)
