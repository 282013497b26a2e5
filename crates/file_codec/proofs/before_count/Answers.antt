use Rattle.file_codec.proofs.Counts.{before-count}
use native.Mathlib.Omega.{arith}
use Rattle.file_codec.proofs.before_count.Goals as goal

pub returns : goal.returns
returns c =
    record { 0 = search before-count; 1 = omega arith }
