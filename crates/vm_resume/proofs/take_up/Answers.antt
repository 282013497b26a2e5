use Rattle.vm_resume.proofs.Cases.{taking-up, up-low, up-awaits}
use borrow.Author.Rules.{rules}
use Rattle.vm_resume.proofs.take_up.Goals as goal

pub hand_in-requires : goal.hand_in-requires
hand_in-requires c =
    search (up-low, up-awaits, rules)

pub returns-in-No : goal.returns-in-No
returns-in-No c =
    search taking-up

pub returns-in-At : goal.returns-in-At
returns-in-At c =
    search taking-up

pub returns-in-Somewhere : goal.returns-in-Somewhere
returns-in-Somewhere c =
    search taking-up
