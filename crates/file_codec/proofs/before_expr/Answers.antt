use Rattle.file_codec.proofs.Counts.{before-expr}
use native.Mathlib.Omega.{arith}
use Rattle.file_codec.proofs.before_expr.Goals as goal

pub returns : goal.returns
returns c =
    record { 0 = search before-expr; 1 = omega arith }
