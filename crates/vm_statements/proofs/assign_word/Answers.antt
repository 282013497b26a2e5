use Rattle.vm_statements.proofs.Cases.{words}
use Rattle.vm_statements.proofs.assign_word.Goals as goal

pub returns-in-Ok : goal.returns-in-Ok
returns-in-Ok c =
    search words

pub returns-in-Err : goal.returns-in-Err
returns-in-Err c =
    search words
