-- One step, and a run: "One statement is one step, operands left to right; a stopped statement changes only the record's state and is
-- not counted."
-- Assumes nothing.
use Rattle.std.specs.Prelude.{Err, Ok}
use Rattle.vm_definitions.specs.Operands.{Worked, valued}
use Rattle.std.specs.Prelude.{ℕ, zero, suc, ◌+◌, ◌%◌, Bool, true, false, List, [], ◌∷◌, get_or, length, set, replicate}
use Rattle.base_prelude.specs.Choice.{if_lt, if_eq, if_true}
use Rattle.base_limits.specs.Width.{bytes_of}
use Rattle.base_limits.specs.declared.Width.{Width}
use Rattle.base_limits.specs.declared.State.{State}
use Rattle.base_limits.specs.declared.State.TheVariants.{Running, Finished, Stopped, Paused}
use Rattle.base_limits.specs.declared.Machine.{Machine}
use Rattle.base_limits.specs.Record.{going_on, moved_to, ended, stopped, with_state, pause_of}
use Rattle.base_word.specs.Bytes.{word_bytes}
use Rattle.lang_kinds.specs.Kinds as kind
use Rattle.prog_tables.specs.Layout.{no_expression}
use Rattle.prog_tables.specs.Statement.{Row, is_test}
use Rattle.prog_tables.specs.Program.{Program}
use Rattle.vm_definitions.specs.Access.{as_word, byte_address, word_address, byte_good, word_good, store_from}
use Rattle.vm_definitions.specs.Operands.{Words, words, bad, number_in, read_of, read_all, on_read}
use Rattle.vm_definitions.specs.Expressions.{eval_of, operand_no, test_holds}
use Rattle.vm_definitions.specs.Frames.{frame_words, returns_to, caller_frame, top_at_entry, is_return, is_calling, importing, returns_import, resumption_of}
use Rattle.vm_definitions.specs.Broken.{step_broken, resume_broken}
use Rattle.vm_definitions.specs.declared.Resumption.{Resumption}
use Rattle.vm_definitions.specs.declared.Resumption.TheVariants.{Ends, Caller}
use Rattle.vm_definitions.specs.declared.Broken.{Broken}
use Rattle.vm_definitions.specs.declared.Broken.TheVariants.{No, At, Somewhere}

-- the run record, the lent stack and the lent memory
pub record World : Type 0 where
  pub machine : Machine
  pub stack : List ℕ
  pub memory : List ℕ

-- what a statement does: it stops with a number, or leaves a world
pub data Effect : Type 0 where
  stops : ℕ → Effect
  leaves : World → Effect

-- the number of a stop, 0 without one
unfoldable pub effect_stop : Effect → ℕ
effect_stop (stops k) = k
effect_stop (leaves y) = 0

-- ---- statements: of a program and a world x, the row being that of its next statement

module _ (p : Program) (x : World) where
  abbrev w : Width
  w = p.width

  abbrev f : ℕ → Row
  f = p.rows

  abbrev c : ℕ
  c = p.count

  abbrev pub row_of : Row
  row_of = f x.machine.next

  abbrev pub frame_of : ℕ
  frame_of = x.machine.frame

  -- a statement that goes to n
  unfoldable pub goes_to : ℕ → Effect
  goes_to n = leaves (record { machine = going_on x.machine n x.machine.top; stack = x.stack; memory = x.memory })

  -- one that stores words in its frame
  unfoldable pub keeps : ℕ → ℕ → List ℕ → Effect
  keeps top i vs =
      leaves
      (record {
        machine = going_on x.machine (suc x.machine.next) top;
        stack = store_from x.stack (frame_of + i) vs;
        memory = x.memory;
      })

  -- one that stores bytes in memory
  unfoldable pub stores : ℕ → ℕ → List ℕ → Effect
  stores top a bs =
      leaves
      (record {
        machine = going_on x.machine (suc x.machine.next) top;
        stack = x.stack;
        memory = store_from x.memory a bs;
      })

  -- "for an open block its saved auto top and its `let`s"; "entering a block zeroes its `let`s"
  unfoldable pub block_of : Effect
  block_of = keeps x.machine.top row_of.a (as_word w x.machine.top ∷ replicate row_of.b 0)

  -- "`end block` restores the block's auto top"
  unfoldable pub end_block_of : Effect
  end_block_of = keeps (get_or x.stack (frame_of + row_of.a) 0) 0 []

  -- "A true test goes on, a false one to" its target
  unfoldable pub test_of : Effect
  test_of =
      on_read (read_of w x.stack frame_of x.memory (operand_no row_of.operands 0)) (stops 32)
      (λ a. on_read (read_of w x.stack frame_of x.memory (operand_no row_of.operands 1)) (stops 32)
      (λ b. goes_to (if_true (test_holds w row_of.kind a b) (suc x.machine.next) row_of.a)))

  -- the row's expression
  unfoldable pub worked_of : Worked
  worked_of = eval_of w x.stack frame_of x.memory x.machine.top row_of.expr row_of.operands

  -- `let` and `set` of a local
  unfoldable pub assigned : Worked → Effect
  assigned (Ok got) = keeps got.top row_of.a (got.word ∷ [])
  assigned (Err k) = stops k

  -- the address of `set @`
  abbrev pub address_of : ℕ
  address_of = number_in w x.stack frame_of row_of.address

  unfoldable pub assigned_at : Worked → Effect
  assigned_at (Ok got) = stores got.top address_of (word_bytes (bytes_of w) got.word)
  assigned_at (Err k) = stops k

  -- `set @`: its address is the leftmost operand
  unfoldable pub set_at_of : Effect
  set_at_of = if_true (word_good w (length x.memory) address_of) (assigned_at worked_of) (stops 32)

  unfoldable pub set_byte_by : Words → Effect
  set_byte_by (words vs) =
      if_true (byte_good (length x.memory) (byte_address w (get_or vs 0 0) (get_or vs 1 0)))
      (stores x.machine.top (byte_address w (get_or vs 0 0) (get_or vs 1 0)) (get_or vs 2 0 % 256 ∷ []))
      (stops 32)
  set_byte_by bad = stops 32

  unfoldable pub set_word_by : Words → Effect
  set_word_by (words vs) =
      if_true (word_good w (length x.memory) (word_address w (get_or vs 0 0) (get_or vs 1 0)))
      (stores x.machine.top (word_address w (get_or vs 0 0) (get_or vs 1 0)) (word_bytes (bytes_of w) (get_or vs 2 0)))
      (stops 32)
  set_word_by bad = stops 32

  -- all operands of the row
  unfoldable pub arguments_of : Words
  arguments_of = read_all w x.stack frame_of x.memory row_of.operands

  -- ---- calls

  -- the frame size of the function the row calls
  abbrev pub callee_size : ℕ
  callee_size = (f row_of.callee).a

  -- "Arguments read, a new frame past the lent stack is stop 33"; "The place to return to is the calling statement"
  unfoldable pub call_by : Words → Effect
  call_by (words vs) =
      if_lt (length x.stack) (x.machine.used + callee_size) (stops 33)
      (leaves
      (record {
        machine = moved_to x.machine (suc row_of.callee) x.machine.used (x.machine.used + callee_size) x.machine.top;
        stack = store_from x.stack x.machine.used (frame_words w x.machine.next frame_of x.machine.top vs callee_size);
        memory = x.memory;
      }))
  call_by bad = stops 32

  -- a call in any form: that of `set @` judges its address first
  unfoldable pub call_of : Effect
  call_of =
      if_eq row_of.kind kind.set_at (if_true (word_good w (length x.memory) address_of) (call_by arguments_of) (stops 32))
      (call_by arguments_of)

  -- "`tail-call` reads all arguments, restores the auto top of entry and builds the new frame at the same start"
  unfoldable pub tail_call_by : Words → Effect
  tail_call_by (words vs) =
      if_lt (length x.stack) (frame_of + callee_size) (stops 33)
      (leaves
      (record {
        machine = moved_to x.machine (suc row_of.callee) frame_of (frame_of + callee_size) (top_at_entry x.stack frame_of);
        stack =
            store_from x.stack frame_of
            (frame_words w (returns_to x.stack frame_of) (caller_frame x.stack frame_of) (top_at_entry x.stack frame_of) vs callee_size);
        memory = x.memory;
      }))
  tail_call_by bad = stops 32

  -- ---- returns

  -- a value v handed to the call at row i, whose frame is at s: "a bare `call` drops it, `let` and `set` store it"
  unfoldable pub handed_to : ℕ → Row → ℕ → Machine → Effect
  handed_to v r s q =
      if_eq r.kind kind.set_at
      (if_true (word_good w (length x.memory) (number_in w x.stack s r.address))
      (leaves
      (record {
        machine = q;
        stack = x.stack;
        memory = store_from x.memory (number_in w x.stack s r.address) (word_bytes (bytes_of w) v);
      }))
      (stops 32))
      (if_eq r.kind kind.call (leaves (record { machine = q; stack = x.stack; memory = x.memory }))
      (leaves (record { machine = q; stack = set x.stack (s + r.a) v; memory = x.memory })))

  unfoldable pub handed_by : ℕ → Resumption → Effect
  handed_by v (Ends top) = leaves (record { machine = ended w v top; stack = x.stack; memory = x.memory })
  handed_by v (Caller call s used top) = handed_to v (f call) s (moved_to x.machine (suc call) s used top)

  -- "A return hands its value there in the same step"
  unfoldable pub returned : Worked → Effect
  returned (Ok got) = handed_by got.word (resumption_of w f c x.stack (suc frame_of) frame_of)
  returned (Err k) = stops k

  -- "Bare `return` and `end function` return 0."
  unfoldable pub return_of : Effect
  return_of = if_eq row_of.kind kind.end_function (returned (valued 0 0)) (if_eq row_of.expr no_expression (returned (valued 0 0)) (returned worked_of))

  -- ---- the statement

  -- the row's effect by its kind, where it calls no imported function; `other` for a kind that is not named
  abbrev pub effect_else : Effect → Effect
  effect_else other =
      -- "A call in any form": `call`, and `let`, `set`, `set @` and `return` with one
      if_true (is_calling row_of) call_of
      -- `end function`, and `return` without a call: "A return hands its value there in the same step"
      (if_true (is_return row_of) return_of
      -- ifeq to ifne: "A true test goes on, a false one to the next test of its `if`, else past the bare `else`, else to
      -- `end if`"
      (if_true (is_test row_of.kind) test_of
      -- "entering a block zeroes its `let`s"
      (if_eq row_of.kind kind.block block_of
      -- "`end block` restores the block's auto top"
      (if_eq row_of.kind kind.end_block end_block_of
      -- a local's word gets the value of an expression
      (if_eq row_of.kind kind.let_local (assigned worked_of)
      (if_eq row_of.kind kind.set (assigned worked_of)
      -- the word at an address gets it: "A word access, `@` included, needs a multiple of 4"
      (if_eq row_of.kind kind.set_at set_at_of
      -- "`set-byte` stores modulo 256", at "base + offset"
      (if_eq row_of.kind kind.set_byte (set_byte_by arguments_of)
      -- at "base + 4 × offset"
      (if_eq row_of.kind kind.set_word (set_word_by arguments_of)
      -- "`tail-call` reads all arguments, restores the auto top of entry and builds the new frame at the same start"
      (if_eq row_of.kind kind.tail_call (tail_call_by arguments_of)
      -- the run goes on behind it
      (if_eq row_of.kind kind.end_if (goes_to (suc x.machine.next))
      -- to its label's statement
      (if_eq row_of.kind kind.goto (goes_to row_of.a)
      -- "Reaching `else` goes to `end if`"; an `else if..` line begins with "a jump to `end if`"
      (if_eq row_of.kind kind.else (goes_to row_of.a)
      (if_eq row_of.kind kind.else_if (goes_to row_of.a)
      -- a `function` row and a kind that is not listed are 35 before this (`step_broken`)
      other))))))))))))))

  -- no step takes it: `no_other` (proofs/Named)
  abbrev pub no_statement : Effect
  no_statement = goes_to row_of.a

  unfoldable pub effect_of : Effect
  effect_of = effect_else no_statement

-- ---- a step

-- the world it leaves, the steps it counts, its 35
pub record After : Type 0 where
  pub world : World
  pub count : ℕ
  pub broken : Broken

-- nothing happened
unfoldable pub idle : World → Broken → After
idle x b = record { world = x; count = 0; broken = b }

unfoldable pub effected : World → Effect → After
effected x (stops k) = record { world = record { machine = stopped x.machine k; stack = x.stack; memory = x.memory }; count = 0; broken = No }
effected x (leaves y) = record { world = y; count = 1; broken = No }

-- "A step refused so changes nothing."
unfoldable pub guarded : World → After → Broken → After
guarded x y No = y
guarded x y (At i) = idle x (At i)
guarded x y Somewhere = idle x Somewhere

-- the world with its record in another state
unfoldable pub in_state_of : State → World → World
in_state_of s x = record { machine = with_state s x.machine; stack = x.stack; memory = x.memory }

module _ (p : Program) (x : World) where
  -- the number of the imported name that the row calls
  abbrev pub import_number : ℕ
  import_number = (p.labels (row_of p x).callee).number

  -- "A call to such a name pauses the run with the name's number and its arguments" (02, 3); nothing else changes
  unfoldable pub paused_by : Words → After
  paused_by (words vs) = idle (in_state_of (Paused (pause_of import_number vs)) x) No
  paused_by bad = effected x (stops 32)

  -- a call to an imported function in any form: that of `set @` judges its address first
  unfoldable pub pausing : After
  pausing =
      if_eq (row_of p x).kind kind.set_at
      (if_true (word_good p.width (length x.memory) (address_of p x)) (paused_by (arguments_of p x)) (effected x (stops 32)))
      (paused_by (arguments_of p x))

  -- what the statement comes to, where it is not refused
  unfoldable pub statement_of : After
  statement_of = if_true (importing (row_of p x)) pausing (effected x (effect_of p x))

-- "Stepping a finished or stopped record gives it back with count 0, before any 35"; "a step or run gives a paused one back with count
-- 0, before any 35" (02, 3)
unfoldable pub in_state : State → After → After → After
in_state Running y z = y
in_state (Finished v) y z = z
in_state (Stopped k i) y z = z
in_state (Paused q) y z = z

unfoldable pub step_of : Program → World → After
step_of p x =
    in_state x.machine.state (guarded x (statement_of p x) (step_broken p x.machine x.stack (length x.memory))) (idle x No)

-- ---- a run

-- so many steps more
unfoldable pub counting : ℕ → After → After
counting n y = record { world = y.world; count = n + y.count; broken = y.broken }

-- "A run steps until its count is the budget, the record has finished or stopped, or a 35 ends it with the count so far"; a pause ends it
-- too
unfoldable pub run_of : Program → ℕ → World → After
run_of p zero x = idle x No
run_of p (suc b) x = if_eq (step_of p x).count 0 (step_of p x) (counting 1 (run_of p b (step_of p x).world))

-- ---- going on

module _ (p : Program) (v : ℕ) (x : World) where
  -- "The host hands in one word as the function's result; the whole call is one step, counted when it goes on. A `tail-call` to one [..]
  -- returns the word" (02, 3), and so does `return call`; a bare `call` drops it, `let` and `set` store it. Arguments are not read again
  unfoldable pub handed_in : Effect
  handed_in =
      if_true (returns_import (row_of p x))
      (handed_by p x (as_word p.width v) (resumption_of p.width p.rows p.count x.stack (suc (frame_of p x)) (frame_of p x)))
      (handed_to p x (as_word p.width v) (row_of p x) (frame_of p x) (going_on x.machine (suc x.machine.next) x.machine.top))

-- what going on comes to: 37, or as a step
pub record Continued : Type 0 where
  pub after : After
  -- "37 [..] for going on with a record that isn't paused, which changes nothing"
  pub unpaused : Bool

unfoldable pub on_pause : State → After → World → Continued
on_pause Running y x = record { after = idle x No; unpaused = true }
on_pause (Finished v) y x = record { after = idle x No; unpaused = true }
on_pause (Stopped k i) y x = record { after = idle x No; unpaused = true }
on_pause (Paused q) y x = record { after = y; unpaused = false }

-- "37, before 35"; the paused record runs from its call on
unfoldable pub resume_of : Program → ℕ → World → Continued
resume_of p v x =
    on_pause x.machine.state
    (guarded x (effected (in_state_of Running x) (handed_in p v (in_state_of Running x)))
    (resume_broken p x.machine x.stack (length x.memory)))
    x
