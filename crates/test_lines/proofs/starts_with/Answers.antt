use Rattle.test_lines.proofs.Loops.{prefixing}
use Rattle.test_lines.proofs.starts_with.Goals as goal

pub loop-i-init : goal.loop-i-init
loop-i-init c =
    search prefixing

pub returns-then-byte_at : goal.returns-then-byte_at
returns-then-byte_at c =
    search prefixing

pub loop-i-preserved : goal.loop-i-preserved
loop-i-preserved c =
    search prefixing

pub returns : goal.returns
returns c =
    search prefixing
