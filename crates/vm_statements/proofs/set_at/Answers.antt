use Rattle.vm_statements.proofs.Chosen.{at-forms}
use Rattle.vm_statements.proofs.Forms.{at_called, at-expressed}
use borrow.Author.Rules.{rules}
use Rattle.vm_statements.proofs.set_at.Goals as goal

pub call_at-requires : goal.call_at-requires
call_at-requires c =
    (search at_called, search rules)

pub returns-then-e-eq-CALL : goal.returns-then-e-eq-CALL
returns-then-e-eq-CALL c =
    search at-forms

pub assign_at-requires : goal.assign_at-requires
assign_at-requires c =
    (search rules, search at-expressed, search rules)

pub returns : goal.returns
returns c =
    search at-forms
