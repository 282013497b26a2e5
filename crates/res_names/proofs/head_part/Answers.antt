use Rattle.res_scope.proofs.Cases.{first-room}
use Rattle.res_names.proofs.Cases.{heads}
use borrow.Author.Rules.{rules}
use Rattle.res_names.proofs.head_part.Goals as goal

pub overflow_add-i : goal.overflow_add-i
overflow_add-i c =
    search (first-room, rules)

pub returns-then-kind-eq-SET : goal.returns-then-kind-eq-SET
returns-then-kind-eq-SET c =
    search heads

pub returns-then-kind-eq-SET_AT : goal.returns-then-kind-eq-SET_AT
returns-then-kind-eq-SET_AT c =
    search heads

pub returns-then-kind-eq-GOTO : goal.returns-then-kind-eq-GOTO
returns-then-kind-eq-GOTO c =
    search heads

pub returns : goal.returns
returns c =
    search heads
