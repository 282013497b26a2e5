use Rattle.vm_pauses.proofs.Cases.{pauses}
use Rattle.vm_pauses.proofs.pause.Goals as goal

pub returns-then-has_word : goal.returns-then-has_word
returns-then-has_word c =
    search pauses

pub returns-then-k-eq-SET_AT : goal.returns-then-k-eq-SET_AT
returns-then-k-eq-SET_AT c =
    search pauses

pub returns : goal.returns
returns c =
    search pauses
