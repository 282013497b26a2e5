use Rattle.vm_statements.proofs.Chosen.{locals}
use Rattle.vm_statements.proofs.Forms.{local-calls, local-expressed}
use borrow.Author.Rules.{rules}
use Rattle.vm_statements.proofs.set_local.Goals as goal

pub call-requires : goal.call-requires
call-requires c =
    (search local-calls, search rules)

pub returns-then-e-eq-CALL : goal.returns-then-e-eq-CALL
returns-then-e-eq-CALL c =
    search locals

pub assign-requires : goal.assign-requires
assign-requires c =
    (search rules, search local-expressed, search rules)

pub returns : goal.returns
returns c =
    search locals
