use Rattle.vm_guard.proofs.Cases.{shape-ways}
use Rattle.vm_guard.proofs.has_shape.Goals as goal

pub returns-then-c-next : goal.returns-then-c-next
returns-then-c-next c =
    search shape-ways

pub returns-then-m-top : goal.returns-then-m-top
returns-then-m-top c =
    search shape-ways

pub returns-then-m-gt-MEMORY_BYTES : goal.returns-then-m-gt-MEMORY_BYTES
returns-then-m-gt-MEMORY_BYTES c =
    search shape-ways

pub returns-then-st-gt-STACK_WORDS : goal.returns-then-st-gt-STACK_WORDS
returns-then-st-gt-STACK_WORDS c =
    search shape-ways

pub returns : goal.returns
returns c =
    search shape-ways
