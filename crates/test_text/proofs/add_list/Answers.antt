use Rattle.test_text.proofs.Loops.{listed-words}
use Rattle.test_text.proofs.add_list.Goals as goal

pub loop-w-init : goal.loop-w-init
loop-w-init c =
    search listed-words

pub loop-w-preserved : goal.loop-w-preserved
loop-w-preserved c =
    search listed-words

pub returns : goal.returns
returns c =
    search listed-words
