use Rattle.c_words.proofs.Cases.{listed-ways}
use Rattle.c_words.proofs.is_listed.Goals as goal

pub returns-then-s-eq-RUNNING : goal.returns-then-s-eq-RUNNING
returns-then-s-eq-RUNNING c =
    search listed-ways

pub returns-then-s-eq-FINISHED : goal.returns-then-s-eq-FINISHED
returns-then-s-eq-FINISHED c =
    search listed-ways

pub returns-then-s-eq-STOPPED : goal.returns-then-s-eq-STOPPED
returns-then-s-eq-STOPPED c =
    search listed-ways

pub returns : goal.returns
returns c =
    search listed-ways
