-- Calls and returns, each tested for 35 and taken at once. One that is not good, that stops, or whose form is none of these stays, and is left
-- to the exact step. What is taken is what the machine's step makes of it (proofs/Right.antt).
-- Assumes nothing.
use Rattle.std.specs.Prelude.{Err, Ok, Option, Some, None}
use Rattle.vm_definitions.specs.Operands.{Worked, valued}
use Rattle.std.specs.Prelude.{ℕ, zero, suc, ◌+◌, Bool, true, false, List, ltb, eqb, length, set, take}
use Rattle.base_prelude.specs.Choice.{if_lt, if_eq, if_true}
use Rattle.lang_kinds.specs.Kinds as kind
use Rattle.prog_tables.specs.Layout.{no_expression, call_expression, operand_slots}
use Rattle.prog_tables.specs.Places.{place_of, slot_place}
use Rattle.prog_tables.specs.Statement.{Row, operand_at, slots, row_at}
use Rattle.prog_tables.specs.Program.{Program, lent_program}
use Rattle.prog_tables.specs.Faults.{operand_fault}
use Rattle.prog_tables.specs.declared.Operand.{Operand}
use Rattle.vm_definitions.specs.Access.{store_from}
use Rattle.vm_definitions.specs.Operands.{Words, words, bad}
use Rattle.base_limits.specs.declared.Width.TheVariants.{Bits32}
use Rattle.vm_definitions.specs.Frames.{frame_words, returns_to, caller_frame, top_at_entry}
use Rattle.vm_quick_operands.specs.Fast.{good_read, read_each, good_work, size_of}
use Rattle.vm_quick_calls.specs.declared.Transfer.{Transfer}

-- what became of a call or a return, with the stack behind it
pub record Transferred : Type 0 where
  pub move : Option Transfer
  pub stack : List ℕ

-- the run goes on at a row in a frame, with the words in use and an auto top
abbrev pub to_frame : ℕ → ℕ → ℕ → ℕ → Option Transfer
to_frame n frame used top = Some (record { next = n; frame = frame; used = used; top = top })

abbrev pub transferred : Option Transfer → List ℕ → Transferred
transferred x st = record { move = x; stack = st }

-- ---- rows that call

-- so many operands from the i-th on are good; the row's first word is at a place
unfoldable pub good_from : List ℕ → ℕ → ℕ → ℕ → ℕ → ℕ → Bool
good_from t at size d zero i = true
good_from t at size d (suc left) i =
    if_true (operand_fault size d (operand_at t (slot_place at i))) false (good_from t at size d left (suc i))

-- the frame size of function p, where it has k parameters; else 0
unfoldable pub callee_size : Program → ℕ → ℕ → ℕ
callee_size prog p k = if_eq (prog.rows p).b k (size_of prog.rows prog.count p) 0

-- a bare call; `let` and `set` of a local with a call, whose word is in the frame
unfoldable pub calls_local : (ℕ → Row) → ℕ → ℕ → Bool
calls_local f size n =
    if_eq (f n).expr call_expression
    (if_eq (f n).kind kind.call true
    (if_eq (f n).kind kind.let_local (ltb (f n).a size) (if_eq (f n).kind kind.set (ltb (f n).a size) false)))
    false

-- one of these, or `return call`
unfoldable pub calls_any : (ℕ → Row) → ℕ → ℕ → Bool
calls_any f size n = if_eq (f n).kind kind.return (eqb (f n).expr call_expression) (calls_local f size n)

-- row p, to which a value is handed, has a good callee and good arguments
unfoldable pub call_good : List ℕ → ℕ → List ℕ → ℕ → ℕ → ℕ → ℕ → Bool
call_good t c lw lc d size p =
    if_lt operand_slots (row_at t p).count false
    (if_eq (callee_size (lent_program t c lw lc d) (row_at t p).callee (row_at t p).count) 0 false
    (if_true (calls_local (row_at t) size p) (good_from t (place_of p) size d (row_at t p).count 0) false))

-- ---- calls

-- all of some operands, left to right, where they are good
abbrev pub good_all : ℕ → ℕ → List ℕ → ℕ → List ℕ → List Operand → Words
good_all size d st s m os = read_each (good_read size d st s m) os

-- a new frame of z words for function p at a place: with the place to return to and the start of the caller's frame
unfoldable pub pushed : List ℕ → ℕ → ℕ → ℕ → ℕ → ℕ → ℕ → List ℕ → Transferred
pushed st at call below top p z vs = transferred (to_frame (suc p) at (at + z) top) (store_from st at (frame_words Bits32 call below top vs z))

module _ (t : List ℕ) (d size : ℕ) (st : List ℕ) (s : ℕ) (m : List ℕ) (n at call below top p k z : ℕ) where
  unfoldable pub entered_by : Words → Transferred
  entered_by (words vs) = pushed st at call below top p z vs
  entered_by bad = transferred None st

  -- row n calls function p with k arguments; the new frame of z words starts at a place
  unfoldable pub entered : Transferred
  entered = if_lt (length st) (at + z) (transferred None st) (entered_by (good_all size d st s m (take k (slots t (place_of n)))))

-- row n calls its function, whose frame starts at a place
unfoldable pub call_transfer : List ℕ → ℕ → List ℕ → ℕ → ℕ → ℕ → List ℕ → ℕ → List ℕ → ℕ → ℕ → ℕ → ℕ → ℕ → Transferred
call_transfer t c lw lc d size st s m n at call below top =
    if_lt operand_slots (row_at t n).count (transferred None st)
    (if_lt (row_at t n).callee c
    (if_eq (callee_size (lent_program t c lw lc d) (row_at t n).callee (row_at t n).count) 0 (transferred None st)
    (entered t d size st s m n at call below top (row_at t n).callee (row_at t n).count
    (callee_size (lent_program t c lw lc d) (row_at t n).callee (row_at t n).count)))
    (transferred None st))

-- `tail-call` at row n: the new frame has the head of the frame in use, and its auto top of entry is restored
unfoldable pub tail_transfer : List ℕ → ℕ → List ℕ → ℕ → ℕ → ℕ → List ℕ → ℕ → List ℕ → ℕ → Transferred
tail_transfer t c lw lc d size st s m n =
    if_eq (row_at t n).expr call_expression
    (if_lt (length m) (top_at_entry st s) (transferred None st)
    (call_transfer t c lw lc d size st s m n s (returns_to st s) (caller_frame st s) (top_at_entry st s)))
    (transferred None st)

-- ---- returns

-- the value that row n returns: "Bare `return` and `end function` return 0."
unfoldable pub result_of : List ℕ → ℕ → ℕ → List ℕ → ℕ → List ℕ → ℕ → ℕ → Worked
result_of t d size st s m n top =
    if_eq (row_at t n).kind kind.end_function (valued 0 0)
    (if_eq (row_at t n).kind kind.return (if_eq (row_at t n).expr no_expression (valued 0 0) (good_work t (place_of n) size d st s m top)) (Err 0))

-- a value for the call at row p, whose frame is at a place; the auto top of entry is restored
unfoldable pub resumed : (ℕ → Row) → List ℕ → ℕ → ℕ → ℕ → ℕ → ℕ → Transferred
resumed f st s v p caller back = transferred (to_frame (suc p) caller s back) (if_eq (f p).kind kind.call st (set st (caller + (f p).a) v))

-- a value handed back from the frame at s to the call at row p, whose frame has z words; m bytes of memory
unfoldable pub hand_to : List ℕ → ℕ → List ℕ → ℕ → ℕ → List ℕ → ℕ → ℕ → ℕ → ℕ → ℕ → Transferred
hand_to t c lw lc d st s m v p z =
    if_lt m (top_at_entry st s) (transferred None st)
    (if_eq (caller_frame st s + z) s
    (if_true (call_good t c lw lc d z p) (resumed (row_at t) st s v p (caller_frame st s) (top_at_entry st s)) (transferred None st))
    (transferred None st))

-- a value handed back from the frame at s
unfoldable pub hand_transfer : List ℕ → ℕ → List ℕ → ℕ → ℕ → List ℕ → ℕ → ℕ → ℕ → Transferred
hand_transfer t c lw lc d st s m v =
    if_lt (returns_to st s) c
    (if_eq (size_of (row_at t) c (row_at t (returns_to st s)).func) 0 (transferred None st)
    (hand_to t c lw lc d st s m v (returns_to st s) (size_of (row_at t) c (row_at t (returns_to st s)).func)))
    (transferred None st)

module _ (t : List ℕ) (c : ℕ) (lw : List ℕ) (lc d size : ℕ) (st : List ℕ) (s : ℕ) (m : List ℕ) (n top : ℕ) where
  unfoldable pub return_by : Worked → Transferred
  return_by (Ok got) = hand_transfer t c lw lc d st s (length m) got.word
  return_by (Err k) = transferred None st

  -- the return at row n
  unfoldable pub return_transfer : Transferred
  return_transfer = return_by (result_of t d size st s m n top)

-- the call or return at row n, where that is one of c rows and a row of function g
unfoldable pub transfer_of : List ℕ → ℕ → List ℕ → ℕ → ℕ → ℕ → ℕ → List ℕ → ℕ → ℕ → List ℕ → ℕ → ℕ → Transferred
transfer_of t c lw lc g d size st s used m n top =
    if_lt n c
    (if_eq (row_at t n).func g
    (if_true (calls_any (row_at t) size n) (call_transfer t c lw lc d size st s m n used n s top)
    (if_eq (row_at t n).kind kind.tail_call (tail_transfer t c lw lc d size st s m n) (return_transfer t c lw lc d size st s m n top)))
    (transferred None st))
    (transferred None st)
