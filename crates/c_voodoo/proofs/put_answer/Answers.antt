use Rattle.c_voodoo.proofs.Cases.{number-accepted, words-accepted, number-refused, words-refused}
use Rattle.c_voodoo.proofs.put_answer.Goals as goal

pub returns-in-Ok : goal.returns-in-Ok
returns-in-Ok c =
    (search number-accepted, search words-accepted)

pub returns-in-Err : goal.returns-in-Err
returns-in-Err c =
    (search number-refused, search words-refused)
