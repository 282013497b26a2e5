use Rattle.vm_start.proofs.Cases.{fit-ways}
use Rattle.vm_start.proofs.fit.Goals as goal

pub returns-then-m-d : goal.returns-then-m-d
returns-then-m-d c =
    search fit-ways

pub returns-then-m-gt-MEMORY_BYTES : goal.returns-then-m-gt-MEMORY_BYTES
returns-then-m-gt-MEMORY_BYTES c =
    search fit-ways

pub returns-then-st-size : goal.returns-then-st-size
returns-then-st-size c =
    search fit-ways

pub returns-then-st-gt-STACK_WORDS : goal.returns-then-st-gt-STACK_WORDS
returns-then-st-gt-STACK_WORDS c =
    search fit-ways

pub returns : goal.returns
returns c =
    search fit-ways
