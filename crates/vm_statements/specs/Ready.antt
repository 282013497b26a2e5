-- What a statement that is not refused may rely on.
-- Assumes nothing.
use Rattle.std.specs.Prelude.{◌≡◌, true, false, List, ℕ, suc, ◌<◌, ◌≤◌, length}
use Rattle.base_prelude.specs.Choice.{if_true}
use Rattle.base_limits.specs.Limits.{memory_bytes, stack_words}
use Rattle.base_limits.specs.declared.Width.TheVariants.{Bits32}
use Rattle.base_limits.specs.declared.Machine.{Machine}
use Rattle.prog_tables.specs.Statement.{Row, has_expression, is_call}
use Rattle.prog_tables.specs.Faults.{expression_listed}
use Rattle.vm_definitions.specs.Frames.{is_return, is_calling, importing, leaves_good}
use Rattle.vm_definitions.specs.Step.{row_of, assigned_at, returned, worked_of}
use Rattle.vm_calls.specs.Outcomes.{Meaning, calling, assigning}

-- f the view of c rows; m bytes of memory
pub record Ready (f : ℕ → Row) (c : ℕ) (r : Machine) (st : List ℕ) (m : ℕ) : Type 0 where
  pub within : r.next < c
  -- it calls no imported function
  pub own : importing (f r.next) ≡ false
  pub listed : has_expression (f r.next).kind ≡ true → expression_listed (f r.next).kind (f r.next).expr ≡ true
  pub callee : is_call (f r.next).kind (f r.next).expr ≡ true → (f r.next).callee < c
  pub leaves : is_return (f r.next) ≡ true → leaves_good Bits32 f c m st (suc r.frame) r.frame ≡ true
  pub stack : length st ≤ stack_words
  pub memory : m ≤ memory_bytes

-- `let` and `set` of a local: a call, or an expression
abbrev pub setting_local : Meaning
setting_local p x = if_true (is_calling (row_of p x)) (calling p x) (assigning p x)

-- `set @` without a call, its address being good
abbrev pub assigning_at : Meaning
assigning_at p x = assigned_at p x (worked_of p x)

-- `return` with an expression
abbrev pub returning : Meaning
returning p x = returned p x (worked_of p x)
