use Rattle.test_text.proofs.Loops.{changing}
use Rattle.test_text.proofs.changed_word.Goals as goal

pub loop-i-init : goal.loop-i-init
loop-i-init c =
    search changing

pub returns-then-i-ge-STACK : goal.returns-then-i-ge-STACK
returns-then-i-ge-STACK c =
    search changing

pub returns-then-k-i : goal.returns-then-k-i
returns-then-k-i c =
    search changing

pub loop-i-preserved : goal.loop-i-preserved
loop-i-preserved c =
    search changing

pub returns : goal.returns
returns c =
    search changing
