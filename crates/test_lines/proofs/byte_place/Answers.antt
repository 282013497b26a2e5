use Rattle.std.proofs.Common.{rules}
use Rattle.test_lines.proofs.Loops.{finding}
use Rattle.test_lines.proofs.byte_place.Goals as goal

pub loop-i-init : goal.loop-i-init
loop-i-init c =
    search finding

pub returns-then-byte_at-byte : goal.returns-then-byte_at-byte
returns-then-byte_at-byte c =
    record { value = search finding; lower_bound = search rules }

pub loop-i-preserved : goal.loop-i-preserved
loop-i-preserved c =
    search finding

pub returns : goal.returns
returns c =
    record { value = search finding; lower_bound = search rules }
