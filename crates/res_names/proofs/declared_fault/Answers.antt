use Rattle.res_scope.proofs.Cases.{first-room}
use Rattle.res_names.proofs.Cases.{declaring}
use borrow.Author.Rules.{rules}
use Rattle.res_names.proofs.declared_fault.Goals as goal

pub overflow_add-i : goal.overflow_add-i
overflow_add-i c =
    search (first-room, rules)

pub returns-then-kind-eq-FUNCTION : goal.returns-then-kind-eq-FUNCTION
returns-then-kind-eq-FUNCTION c =
    search declaring

pub returns-then-kind-eq-LET : goal.returns-then-kind-eq-LET
returns-then-kind-eq-LET c =
    search declaring

pub returns : goal.returns
returns c =
    search declaring
