use Rattle.vm_quick_operands.proofs.Cases.{reading}
use Rattle.vm_quick_operands.proofs.read.Goals as goal

pub returns-then-v-size : goal.returns-then-v-size
returns-then-v-size c =
    search reading

pub returns-then-v-d : goal.returns-then-v-d
returns-then-v-d c =
    search reading

pub returns-then-v-size-2 : goal.returns-then-v-size-2
returns-then-v-size-2 c =
    search reading

pub returns-then-v-d-2 : goal.returns-then-v-d-2
returns-then-v-d-2 c =
    search reading

pub returns-in-1 : goal.returns-in-1
returns-in-1 c =
    search reading

pub returns-else-v-size : goal.returns-else-v-size
returns-else-v-size c =
    search reading

pub returns-else-v-d : goal.returns-else-v-d
returns-else-v-d c =
    search reading

pub returns-in-4 : goal.returns-in-4
returns-in-4 c =
    search reading

pub returns-else-v-size-2 : goal.returns-else-v-size-2
returns-else-v-size-2 c =
    search reading

pub returns-else-v-d-2 : goal.returns-else-v-d-2
returns-else-v-d-2 c =
    search reading

pub returns-in_default : goal.returns-in_default
returns-in_default c =
    search reading
