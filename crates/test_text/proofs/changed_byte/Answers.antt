use Rattle.test_text.proofs.Loops.{changing}
use Rattle.test_text.proofs.changed_byte.Goals as goal

pub loop-i-init : goal.loop-i-init
loop-i-init c =
    search changing

pub returns-then-i-ge-MEMORY : goal.returns-then-i-ge-MEMORY
returns-then-i-ge-MEMORY c =
    search changing

pub returns-then-m-i : goal.returns-then-m-i
returns-then-m-i c =
    search changing

pub loop-i-preserved : goal.loop-i-preserved
loop-i-preserved c =
    search changing

pub returns : goal.returns
returns c =
    search changing
