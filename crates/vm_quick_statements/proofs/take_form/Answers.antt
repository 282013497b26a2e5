use Rattle.vm_quick_statements.proofs.Cases.{forms}
use Rattle.vm_quick_statements.proofs.take_form.Goals as goal

pub returns-then-is_test : goal.returns-then-is_test
returns-then-is_test c =
    search forms

pub returns-in-3 : goal.returns-in-3
returns-in-3 c =
    search forms

pub returns-in-4 : goal.returns-in-4
returns-in-4 c =
    search forms

pub returns-in-5 : goal.returns-in-5
returns-in-5 c =
    search forms

pub returns-in-6 : goal.returns-in-6
returns-in-6 c =
    search forms

pub returns-in-7 : goal.returns-in-7
returns-in-7 c =
    search forms

pub returns-in-8 : goal.returns-in-8
returns-in-8 c =
    search forms

pub returns-in-9 : goal.returns-in-9
returns-in-9 c =
    search forms

pub returns-in-10 : goal.returns-in-10
returns-in-10 c =
    search forms

pub returns-in-20 : goal.returns-in-20
returns-in-20 c =
    search forms

pub returns-in-21 : goal.returns-in-21
returns-in-21 c =
    search forms

pub returns-in-22 : goal.returns-in-22
returns-in-22 c =
    search forms

pub returns-in_default : goal.returns-in_default
returns-in_default c =
    search forms
