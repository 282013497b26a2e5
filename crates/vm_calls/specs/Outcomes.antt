-- What the functions of statements give back, as the machine's definitions say it.
-- Assumes nothing.
use Rattle.std.specs.Prelude.{Option, Some, None}
use Rattle.std.specs.Prelude.{ℕ, suc, ◌<◌, ◌≡◌, Bool, true, false, List, take, length}
use Rattle.base_prelude.specs.Choice.{if_true}
use Rattle.base_limits.specs.declared.Width.TheVariants.{Bits32}
use Rattle.base_limits.specs.declared.Machine.{Machine}
use Rattle.base_limits.specs.Record.{stopped}
use Rattle.prog_tables.specs.Layout.{no_expression}
use Rattle.prog_tables.specs.Places.{slot_at}
use Rattle.prog_tables.specs.Statement.{Row, row_at, has_expression, is_call_expression, used_by}
use Rattle.prog_tables.specs.Program.{Program, rows_alone}
use Rattle.prog_tables.specs.Faults.{expression_listed}
use Rattle.vm_definitions.specs.Operands.{Words, words, bad, read_of}
use Rattle.vm_definitions.specs.Frames.{resumption_of}
use Rattle.vm_definitions.specs.Step.{World, Effect, After, effected, worked_of, arguments_of, assigned, set_byte_by, set_word_by, call_by, tail_call_by, handed_to, handed_by, address_of, stops}
use Rattle.vm_definitions.specs.Access.{word_good}
use Rattle.vm_definitions.specs.Lent.{world}
use Rattle.vm_definitions.specs.declared.Outcome.{Outcome}
use Rattle.vm_definitions.specs.declared.Broken.{Broken}
use Rattle.vm_definitions.specs.declared.Broken.TheVariants.{No}

-- a statement that took effect leaves this record
abbrev pub one_step : Machine → Outcome
one_step q = record { machine = q; count = 1; broken = No }

-- nothing happened, but perhaps a 35
abbrev pub given_back : Machine → Broken → Outcome
given_back r b = record { machine = r; count = 0; broken = b }

-- a statement that stopped
abbrev pub halted : Machine → ℕ → Outcome
halted r k = record { machine = stopped r k; count = 0; broken = No }

-- ---- what a statement does, at 32 bits: t is the statement table, of c rows

abbrev pub Meaning : Type 0
Meaning = Program → World → Effect

abbrev pub after : Meaning → List ℕ → ℕ → Machine → List ℕ → List ℕ → After
after e t c r st m = effected (world r st m) (e (rows_alone t c) (world r st m))

-- a call, the address of `set @` being judged
abbrev pub calling : Meaning
calling p x = call_by p x (arguments_of p x)

abbrev pub calling_with : Words → Meaning
calling_with vs p x = call_by p x vs

abbrev pub tail_calling : Meaning
tail_calling p x = tail_call_by p x (arguments_of p x)

abbrev pub tail_calling_with : Words → Meaning
tail_calling_with vs p x = tail_call_by p x vs

-- `set @` with a call
abbrev pub at_calling : Meaning
at_calling p x = if_true (word_good p.width (length x.memory) (address_of p x)) (calling p x) (stops 32)

-- a value for the call at row i
abbrev pub handing_to : ℕ → ℕ → ℕ → Machine → Meaning
handing_to v i s q p x = handed_to p x v (p.rows i) s q

-- a value handed back
abbrev pub handing : ℕ → Meaning
handing v p x = handed_by p x v (resumption_of p.width p.rows p.count x.stack (suc x.machine.frame) x.machine.frame)

abbrev pub assigning : Meaning
assigning p x = assigned p x (worked_of p x)

abbrev pub setting_byte : Meaning
setting_byte p x = set_byte_by p x (arguments_of p x)

abbrev pub setting_word : Meaning
setting_word p x = set_word_by p x (arguments_of p x)

-- ---- arguments

-- the operand in slot i of row n, read in the frame at s
abbrev pub slot_read : List ℕ → ℕ → List ℕ → ℕ → List ℕ → ℕ → Option ℕ
slot_read t n st s m i = read_of Bits32 st s m (slot_at t n i)

-- k words, where all were read
abbrev pub words_in : Bool → List ℕ → ℕ → Words
words_in b ws k = if_true b (words (take k ws)) bad

abbrev pub words_given : Option (List ℕ) → ℕ → Words
words_given (Some ws) k = words (take k ws)
words_given None k = bad

-- ---- rows

-- an expression that is an operand, or an operator with operands
pub record Expressed (r : Row) : Type 0 where
  pub has : has_expression r.kind ≡ true
  pub listed : expression_listed r.kind r.expr ≡ true
  pub some : r.expr ≡ no_expression → ⊥
  pub plain : is_call_expression r.expr ≡ false

-- a call to one of c rows; its operands are its arguments
pub record Calls (r : Row) (c : ℕ) : Type 0 where
  pub callee : r.callee < c
  pub used : used_by r.kind r.expr r.count ≡ r.count
