use Rattle.prog_scope.proofs.Cases.{word-ways}
use Rattle.prog_scope.proofs.word_held.Goals as goal

pub returns-in-5 : goal.returns-in-5
returns-in-5 c =
    search word-ways

pub returns-in-3 : goal.returns-in-3
returns-in-3 c =
    search word-ways

pub returns-in-4 : goal.returns-in-4
returns-in-4 c =
    search word-ways

pub returns-in-1 : goal.returns-in-1
returns-in-1 c =
    search word-ways

pub returns-in_default : goal.returns-in_default
returns-in_default c =
    search word-ways
