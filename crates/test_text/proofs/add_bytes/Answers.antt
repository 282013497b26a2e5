use Rattle.test_text.proofs.Loops.{showing-start, showing-more, shown-bytes}
use Rattle.test_text.proofs.add_bytes.Goals as goal

pub returns-then-memory-i : goal.returns-then-memory-i
returns-then-memory-i c =
    search shown-bytes

pub returns : goal.returns
returns c =
    search shown-bytes

pub loop-init : goal.loop-init
loop-init c =
    search showing-start

pub loop-preserved : goal.loop-preserved
loop-preserved c =
    search showing-more
