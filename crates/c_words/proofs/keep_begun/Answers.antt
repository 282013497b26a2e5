use Rattle.c_words.proofs.Cases.{begun-ways}
use Rattle.c_words.proofs.keep_begun.Goals as goal

pub returns-in-Ok : goal.returns-in-Ok
returns-in-Ok c =
    search begun-ways

pub returns-in-Err : goal.returns-in-Err
returns-in-Err c =
    search begun-ways
