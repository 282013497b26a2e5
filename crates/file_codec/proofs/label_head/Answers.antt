use Rattle.file_codec.specs.Labels.{label_head}
use Rattle.base_prelude.proofs.Choice.{tests}
use native.Mathlib.Omega.{arith}
use Rattle.file_codec.proofs.label_head.Goals as goal

pub returns-then-k-eq-IMPORT : goal.returns-then-k-eq-IMPORT
unfolding label_head
returns-then-k-eq-IMPORT c =
    record { 0 = search tests; 1 = omega arith }

pub returns-else-k-eq-IMPORT : goal.returns-else-k-eq-IMPORT
unfolding label_head
returns-else-k-eq-IMPORT c =
    record { 0 = search tests; 1 = omega arith }
