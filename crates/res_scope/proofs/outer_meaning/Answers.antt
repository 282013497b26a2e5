use Rattle.res_scope.proofs.Cases.{outer, first-room, parameter-room}
use borrow.Author.Rules.{rules}
use Rattle.res_scope.proofs.outer_meaning.Goals as goal

pub overflow_add-first : goal.overflow_add-first
overflow_add-first c =
    search (first-room, rules)

pub overflow_sub-result : goal.overflow_sub-result
overflow_sub-result c =
    search (parameter-room, rules)

pub returns-then-q-end : goal.returns-then-q-end
returns-then-q-end c =
    search outer

pub returns : goal.returns
returns c =
    search outer
