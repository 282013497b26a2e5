use borrow.Author.Rules.{rules}
use Rattle.res_scope.proofs.Cases.{lets, first-room}
use Rattle.res_scope.proofs.let_named.Goals as goal

pub overflow_add-first_token : goal.overflow_add-first_token
overflow_add-first_token c =
    search (lets, first-room, rules)

pub returns-then-kind_at-ne-LET : goal.returns-then-kind_at-ne-LET
returns-then-kind_at-ne-LET c =
    search (lets, first-room, rules)

pub returns-then-same_name : goal.returns-then-same_name
returns-then-same_name c =
    search (lets, first-room, rules)

pub returns-else-same_name : goal.returns-else-same_name
returns-else-same_name c =
    search (lets, first-room, rules)
