use Rattle.c_words.proofs.Cases.{state-ways}
use Rattle.c_words.proofs.make_state.Goals as goal

pub returns-then-s-eq-RUNNING : goal.returns-then-s-eq-RUNNING
returns-then-s-eq-RUNNING c =
    search state-ways

pub returns-then-s-eq-FINISHED : goal.returns-then-s-eq-FINISHED
returns-then-s-eq-FINISHED c =
    search state-ways

pub returns-then-s-eq-STOPPED : goal.returns-then-s-eq-STOPPED
returns-then-s-eq-STOPPED c =
    search state-ways

pub returns : goal.returns
returns c =
    search state-ways
