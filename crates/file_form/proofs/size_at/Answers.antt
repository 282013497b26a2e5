use Rattle.file_form.proofs.Cases.{size-made}
use native.Mathlib.Omega.{arith}
use Rattle.file_form.proofs.size_at.Goals as goal

pub returns : goal.returns
returns c =
    record { 0 = search size-made; 1 = omega arith }
