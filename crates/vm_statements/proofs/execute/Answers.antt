use Rattle.vm_statements.proofs.Chosen.{doing}
use Rattle.vm_statements.proofs.Forms.{kind-calls, kind-tail-calls, kind-leaves, kind-let, kind-set}
use Rattle.vm_statements.proofs.Cases.{test-is}
use borrow.Author.Rules.{rules}
use Rattle.vm_statements.proofs.execute.Goals as goal

pub run_test-requires : goal.run_test-requires
run_test-requires c =
    (search rules, search rules, search test-is)

pub returns-then-is_test : goal.returns-then-is_test
returns-then-is_test c =
    search doing

pub hand_back-requires : goal.hand_back-requires
hand_back-requires c =
    search kind-leaves

pub set_local-requires : goal.set_local-requires
set_local-requires c =
    (search rules, search kind-let, search rules)

pub set_local-requires-in-6 : goal.set_local-requires-in-6
set_local-requires-in-6 c =
    (search rules, search kind-set, search rules)

pub call-requires : goal.call-requires
call-requires c =
    (search kind-calls, search rules)

pub tail_call-requires : goal.tail_call-requires
tail_call-requires c =
    (search kind-tail-calls, search rules)

pub returns-in-2 : goal.returns-in-2
returns-in-2 c =
    search doing

pub returns-in-3 : goal.returns-in-3
returns-in-3 c =
    search doing

pub returns-in-4 : goal.returns-in-4
returns-in-4 c =
    search doing

pub returns-in-5 : goal.returns-in-5
returns-in-5 c =
    search doing

pub returns-in-6 : goal.returns-in-6
returns-in-6 c =
    search doing

pub returns-in-7 : goal.returns-in-7
returns-in-7 c =
    search doing

pub returns-in-8 : goal.returns-in-8
returns-in-8 c =
    search doing

pub returns-in-9 : goal.returns-in-9
returns-in-9 c =
    search doing

pub returns-in-11 : goal.returns-in-11
returns-in-11 c =
    search doing

pub returns-in-12 : goal.returns-in-12
returns-in-12 c =
    search doing

pub returns-in-13 : goal.returns-in-13
returns-in-13 c =
    search doing

pub returns-in-22 : goal.returns-in-22
returns-in-22 c =
    search doing

pub returns-in_default : goal.returns-in_default
returns-in_default c =
    search doing
