-- Refusal 35 of a step and of a start, decided before an operand is read.
-- Assumes nothing.
use Rattle.std.specs.Prelude.{ℕ, zero, suc, ◌+◌, min, Bool, not, List, [], ◌∷◌, ◌++◌, ltb, leb, eqb, get_or, length}
use Rattle.base_prelude.specs.Choice.{if_lt, if_true}
use Rattle.base_limits.specs.Limits.{stack_words}
use Rattle.base_limits.specs.Width.{memory_limit}
use Rattle.base_limits.specs.declared.Machine.{Machine}
use Rattle.lang_kinds.specs.Kinds as kind
use Rattle.prog_tables.specs.Tests.{both, one_of, some, some_below}
use Rattle.prog_tables.specs.Statement.{Row, is_call}
use Rattle.prog_tables.specs.Program.{Program}
use Rattle.prog_tables.specs.Faults.{in_function, size_at, row_fault, label_fault}
use Rattle.vm_definitions.specs.Frames.{top_at_entry, importing, leaves_frame, head_good, heads_left, tops_left, rows_left}
use Rattle.vm_definitions.specs.declared.Broken.{Broken}
use Rattle.vm_definitions.specs.declared.Broken.TheVariants.{No, At, Somewhere}

-- ---- the place: "lowest such statement, else none"

unfoldable pub lower : ℕ → Broken → Broken
lower i No = At i
lower i (At j) = At (min i j)
lower i Somewhere = At i

-- the lowest of some rows that is bad
unfoldable pub lowest : (ℕ → Bool) → List ℕ → Broken
lowest p [] = No
lowest p (i ∷ is) = if_true (p i) (lower i (lowest p is)) (lowest p is)

-- a row's refusal, else that of the rest
unfoldable pub or_else : Broken → Broken → Broken
or_else No x = x
or_else (At i) x = At i
or_else Somewhere x = Somewhere

-- ---- a step

-- "a next statement on a `function` line or in no function", of a statement among the rows: its place is that statement
unfoldable pub next_bad : (ℕ → Row) → ℕ → ℕ → Bool
next_bad f c n = one_of (eqb (f n).kind kind.function) (not (in_function f c n))

-- the frame in use ends at the stack in use, within s words
unfoldable pub frame_ends : (ℕ → Row) → ℕ → Machine → ℕ → Bool
frame_ends f c r s = both (eqb (r.frame + size_at f c r.next) r.used) (leb r.used s)

-- the rows that a step uses: the statement, its function, the function it calls, those of the frames it leaves
unfoldable pub rows_used : Program → Machine → List ℕ → List ℕ
rows_used p r st =
    if_lt r.next p.count
    (r.next
    ∷ (if_true (in_function p.rows p.count r.next) ((p.rows r.next).func ∷ []) []
    ++ (if_true (both (is_call (p.rows r.next).kind (p.rows r.next).expr) (ltb (p.rows r.next).callee p.count))
    ((p.rows r.next).callee ∷ []) []
    ++ if_true (both (leaves_frame (p.rows r.next)) (frame_ends p.rows p.count r (length st)))
    (rows_left p.width p.rows p.count st (suc r.frame) r.frame) [])))
    []

-- causes beside the rows: the record, its frames, and the lent stack and memory of m bytes
module _ (p : Program) (m : ℕ) (r : Machine) (st : List ℕ) where
  abbrev next_row : Row
  next_row = p.rows r.next

  -- "a next statement [..] in no function": past the rows
  unfoldable pub next_past : Bool
  next_past = leb p.count r.next

  -- "a frame that doesn't end at the stack in use or lies past the lent stack"
  unfoldable pub frame_fault : Bool
  frame_fault = not (frame_ends p.rows p.count r (length st))

  -- "an auto top (held or about to be restored) above the memory's length": m bytes; restored by `end block`, by `tail-call`, and
  -- by a return from each frame it leaves, what the host hands in being returned too
  unfoldable pub top_fault : Bool
  top_fault =
      some
      (ltb m r.top
      ∷ both (eqb next_row.kind kind.end_block) (ltb m (get_or st (r.frame + next_row.a) 0))
      ∷ both (eqb next_row.kind kind.tail_call) (ltb m (top_at_entry st r.frame))
      ∷ both (leaves_frame next_row) (not (tops_left p.width p.rows p.count m st (suc r.frame) r.frame))
      ∷ [])

  -- "a memory or stack over the limits"
  unfoldable pub limit_fault : Bool
  limit_fault =
      one_of (ltb (memory_limit p.width) m)
      (ltb stack_words (length st))

  -- "in the frame in use and each a return leaves, the first's two marks aside, a place to return to that is no call or a caller's
  -- frame that doesn't end where this one starts"
  unfoldable pub head_fault : Bool
  head_fault =
      one_of (not (head_good p.width p.rows p.count st r.frame))
      (both (leaves_frame next_row) (not (heads_left p.width p.rows p.count st (suc r.frame) r.frame)))

  -- the record is broken
  unfoldable pub record_fault : Bool
  record_fault = some (next_past ∷ frame_fault ∷ top_fault ∷ limit_fault ∷ head_fault ∷ [])

-- the lowest broken row of those that a step uses
abbrev pub row_broken : Program → Machine → List ℕ → Broken
row_broken p r st = lowest (λ i. one_of (row_fault p i) (both (eqb i r.next) (next_bad p.rows p.count i))) (rows_used p r st)

-- what is broken with no place: the count of labels, the record
abbrev pub placeless : Program → Machine → List ℕ → ℕ → Broken
placeless p r st m = if_true (one_of p.labels_past (record_fault p m r st)) Somewhere No

-- 35 of a step: "a label row or count past its table" too, and where that is the count of statements no row can be judged
unfoldable pub step_broken : Program → Machine → List ℕ → ℕ → Broken
step_broken p r st m = if_true p.statements_past Somewhere (or_else (row_broken p r st) (placeless p r st m))

-- 35 of going on: "checks going on as a step, also for a next statement that is no call or `tail-call` to one" (02, 3): its place is that
-- statement
unfoldable pub not_import : Program → Machine → Broken → Broken
not_import p r b = if_lt r.next p.count (if_true (importing (p.rows r.next)) b (lower r.next b)) b

unfoldable pub resume_broken : Program → Machine → List ℕ → ℕ → Broken
resume_broken p r st m = if_true p.statements_past Somewhere (or_else (not_import p r (row_broken p r st)) (placeless p r st m))

-- ---- a start: "Start reads all rows"

-- the numbers below n, the lowest last
unfoldable pub numbers_below : ℕ → List ℕ
numbers_below zero = []
numbers_below (suc n) = n ∷ numbers_below n

-- 35 of a start, d bytes of data being lent; the counts as in a step
unfoldable pub start_broken : Program → ℕ → Broken
start_broken p d =
    if_true p.statements_past Somewhere
    (or_else (lowest (row_fault p) (numbers_below p.count))
    (if_true (some (p.labels_past ∷ ltb d p.data_length ∷ some_below (λ i. label_fault p (p.labels i)) p.label_count ∷ [])) Somewhere No))
