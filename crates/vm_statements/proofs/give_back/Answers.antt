use Rattle.vm_statements.proofs.Chosen.{return-forms}
use Rattle.vm_statements.proofs.Forms.{return-called, bare-leaves, return-expressed}
use borrow.Author.Rules.{rules}
use Rattle.vm_statements.proofs.give_back.Goals as goal

pub call-requires : goal.call-requires
call-requires c =
    (search return-called, search rules)

pub returns-then-e-eq-CALL : goal.returns-then-e-eq-CALL
returns-then-e-eq-CALL c =
    search return-forms

pub hand_back-requires : goal.hand_back-requires
hand_back-requires c =
    search bare-leaves

pub returns-then-e-eq-NONE : goal.returns-then-e-eq-NONE
returns-then-e-eq-NONE c =
    search return-forms

pub return_value-requires : goal.return_value-requires
return_value-requires c =
    (search rules, search rules, search return-expressed)

pub returns : goal.returns
returns c =
    search return-forms
