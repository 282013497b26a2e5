use Rattle.test_text.proofs.Loops.{showing-start, showing-more, shown-words}
use Rattle.test_text.proofs.add_words.Goals as goal

pub returns-then-stack-i : goal.returns-then-stack-i
returns-then-stack-i c =
    search shown-words

pub returns : goal.returns
returns c =
    search shown-words

pub loop-init : goal.loop-init
loop-init c =
    search showing-start

pub loop-preserved : goal.loop-preserved
loop-preserved c =
    search showing-more
