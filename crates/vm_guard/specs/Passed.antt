-- What a step that is not refused knows.
-- Assumes nothing.
use Rattle.std.specs.Prelude.{◌≡◌, true, false, List, ℕ, suc, ◌<◌, ◌≤◌, length}
use Rattle.base_limits.specs.Limits.{memory_bytes, stack_words}
use Rattle.base_limits.specs.declared.Width.TheVariants.{Bits32}
use Rattle.base_limits.specs.declared.Machine.{Machine}
use Rattle.prog_tables.specs.Statement.{has_expression, is_call}
use Rattle.prog_tables.specs.Program.{Program}
use Rattle.prog_tables.specs.Faults.{expression_listed, row_fault}
use Rattle.vm_definitions.specs.Frames.{leaves_frame, leaves_good}

pub record Passed (p : Program) (r : Machine) (st : List ℕ) (m : ℕ) : Type 0 where
  pub within : r.next < p.count
  pub row : row_fault p r.next ≡ false
  pub callee : is_call (p.rows r.next).kind (p.rows r.next).expr ≡ true → (p.rows r.next).callee < p.count
  pub stack : length st ≤ stack_words
  pub memory : m ≤ memory_bytes
  pub leaves : leaves_frame (p.rows r.next) ≡ true → leaves_good Bits32 p.rows p.count m st (suc r.frame) r.frame ≡ true
  pub listed : has_expression (p.rows r.next).kind ≡ true → expression_listed (p.rows r.next).kind (p.rows r.next).expr ≡ true
