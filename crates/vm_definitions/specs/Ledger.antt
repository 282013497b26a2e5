-- The ledger: "lists the open functions, each with its calling statement. It is fed the accepted starts and the statements the
-- definition counts, in order." A fold over events and rows alone.
-- Assumes nothing.
use Rattle.std.specs.Prelude.{ℕ, ◌+◌, Bool, false, List, [], ◌∷◌}
use Rattle.std.proofs.Math.Option.{Option, none, some}
use Rattle.base_prelude.specs.Choice.{if_eq, if_true}
use Rattle.lang_kinds.specs.Kinds as kind
use Rattle.prog_tables.specs.Statement.{Row}
use Rattle.vm_definitions.specs.Frames.{is_return, is_calling, is_return_call, importing, returns_import}

pub data Event : Type 0 where
  -- an accepted start of the function at a row
  started : ℕ → Event
  -- a statement that the definition counts
  counted : ℕ → Event

-- an open function: its row, and the statement that called it
pub record Entry : Type 0 where
  pub func : ℕ
  pub call : Option ℕ

-- the last opened stands first
abbrev pub Ledger : Type 0
Ledger = List Entry

-- "if a `return call` called it"
unfoldable pub from_return : (ℕ → Row) → Option ℕ → Bool
from_return f none = false
from_return f (some c) = is_return_call (f c)

-- "removes the last and, if a `return call` called it, the next likewise"
unfoldable pub popped : (ℕ → Row) → Ledger → Ledger
popped f [] = []
popped f (e ∷ es) = if_true (from_return f e.call) (popped f es) es

-- "a tail call changes only the last one's function"
unfoldable pub replaced : ℕ → Ledger → Ledger
replaced g [] = []
replaced g (e ∷ es) = record { func = g; call = e.call } ∷ es

-- "A call in any form adds its function; a tail call changes only the last one's function; a `return` without `call`, or `end
-- function`, removes the last [..]. Else it stays." "An imported function has no frame: in the ledger its `tail-call` or `return call`
-- is as a return, any other call to it changes nothing" (02, 3)
unfoldable pub counted_in : (ℕ → Row) → ℕ → Ledger → Ledger
counted_in f n es =
    if_true (importing (f n)) (if_true (returns_import (f n)) (popped f es) es)
    (if_true (is_calling (f n)) (record { func = (f n).callee; call = some n } ∷ es)
    (if_eq (f n).kind kind.tail_call (replaced (f n).callee es)
    (if_true (is_return (f n)) (popped f es) es)))

-- "An accepted start puts the started function alone in it."
unfoldable pub fed : (ℕ → Row) → Event → Ledger → Ledger
fed f (started g) es = record { func = g; call = none } ∷ []
fed f (counted n) es = counted_in f n es

-- after events, the oldest first
unfoldable pub ledger_of : (ℕ → Row) → Ledger → List Event → Ledger
ledger_of f es [] = es
ledger_of f es (v ∷ vs) = ledger_of f (fed f v es) vs

-- the sum of the frame sizes of the open functions
unfoldable pub sum_of : (ℕ → Row) → Ledger → ℕ
sum_of f [] = 0
sum_of f (e ∷ es) = (f e.func).a + sum_of f es

-- the frame size of the last
unfoldable pub last_of : (ℕ → Row) → Ledger → ℕ
last_of f [] = 0
last_of f (e ∷ es) = (f e.func).a
