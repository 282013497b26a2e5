-- Refusal 35 of a step over tables whose counts are good, and its parts as the code tests them.
-- Assumes nothing.
use Rattle.std.specs.Prelude.{ℕ, suc, ◌+◌, Bool, List, [], ◌∷◌, ltb, leb, eqb, get_or, length}
use Rattle.base_prelude.specs.Choice.{if_true}
use Rattle.base_limits.specs.Limits.{stack_words}
use Rattle.base_limits.specs.Width.{memory_limit}
use Rattle.base_limits.specs.declared.Width.{Width}
use Rattle.base_limits.specs.declared.Machine.{Machine}
use Rattle.lang_kinds.specs.Kinds as kind
use Rattle.prog_tables.specs.Tests.{both, one_of, given, all}
use Rattle.prog_tables.specs.Statement.{Row, is_call}
use Rattle.prog_tables.specs.Program.{Program}
use Rattle.prog_tables.specs.Faults.{in_function, row_fault}
use Rattle.vm_definitions.specs.Frames.{top_at_entry, leaves_frame, head_good, leaves_good, rows_left}
use Rattle.vm_definitions.specs.Broken.{lower, lowest, or_else, next_bad, frame_ends, rows_used, not_import}
use Rattle.vm_definitions.specs.declared.Broken.{Broken}
use Rattle.vm_definitions.specs.declared.Broken.TheVariants.{No, Somewhere}

-- a row that a step uses is bad: broken, or the next statement on a `function` line or in no function
unfoldable pub row_bad : Program → ℕ → ℕ → Bool
row_bad p next i = one_of (row_fault p i) (both (eqb i next) (next_bad p.rows p.count i))

-- the record, its frames, and the lent stack and memory, of m bytes, are good: no cause of `record_fault`
unfoldable pub record_good : Program → ℕ → Machine → List ℕ → Bool
record_good p m r st =
    all
    (ltb r.next p.count
    ∷ frame_ends p.rows p.count r (length st)
    ∷ leb r.top m
    ∷ leb m (memory_limit p.width)
    ∷ leb (length st) stack_words
    ∷ head_good p.width p.rows p.count st r.frame
    ∷ given (eqb (p.rows r.next).kind kind.end_block) (leb (get_or st (r.frame + (p.rows r.next).a) 0) m)
    ∷ given (eqb (p.rows r.next).kind kind.tail_call) (leb (top_at_entry st r.frame) m)
    ∷ given (leaves_frame (p.rows r.next)) (leaves_good p.width p.rows p.count m st (suc r.frame) r.frame)
    ∷ [])

-- a broken row, else a broken record
unfoldable pub with_record : Program → Machine → List ℕ → ℕ → Broken → Broken
with_record p r st m b = or_else b (if_true (record_good p m r st) No Somewhere)

-- 35 of a step, the counts of the tables being good
unfoldable pub within_broken : Program → Machine → List ℕ → ℕ → Broken
within_broken p r st m = with_record p r st m (lowest (row_bad p r.next) (rows_used p r st))

-- 35 of going on, the counts of the tables being good
unfoldable pub within_resume : Program → Machine → List ℕ → ℕ → Broken
within_resume p r st m = with_record p r st m (not_import p r (lowest (row_bad p r.next) (rows_used p r st)))

-- ---- the place, found row by row

-- the place with one row more
unfoldable pub marked : (ℕ → Bool) → ℕ → Broken → Broken
marked bad i b = if_true (bad i) (lower i b) b

-- the place with row i and its function
unfoldable pub call_marked : Program → ℕ → ℕ → Broken → Broken
call_marked p next i b = marked (row_bad p next) (p.rows i).func (marked (row_bad p next) i b)

-- the lowest bad row of the frames that a return leaves
unfoldable pub left_broken : Program → Machine → List ℕ → Broken
left_broken p r st =
    lowest (row_bad p r.next)
    (if_true (both (leaves_frame (p.rows r.next)) (frame_ends p.rows p.count r (length st)))
    (rows_left p.width p.rows p.count st (suc r.frame) r.frame) [])

-- the place with the function that the next statement calls
unfoldable pub callee_marked : Program → ℕ → Broken → Broken
callee_marked p next b =
    if_true (both (is_call (p.rows next).kind (p.rows next).expr) (ltb (p.rows next).callee p.count))
    (marked (row_bad p next) (p.rows next).callee b) b

-- the place with the function of the next statement
unfoldable pub function_marked : Program → ℕ → Broken → Broken
function_marked p next b = if_true (in_function p.rows p.count next) (marked (row_bad p next) (p.rows next).func b) b

-- ---- the record

-- the numbers of the record and of what is lent
unfoldable pub shape_good : Width → (ℕ → Row) → ℕ → ℕ → Machine → List ℕ → Bool
shape_good w f c m r st =
    all (ltb r.next c ∷ frame_ends f c r (length st) ∷ leb r.top m ∷ leb m (memory_limit w) ∷ leb (length st) stack_words ∷ [])

-- the auto tops that the statement restores from the frame at s
unfoldable pub kept_good : Width → (ℕ → Row) → ℕ → ℕ → ℕ → List ℕ → ℕ → Bool
kept_good w f c m next st s =
    all
    (given (eqb (f next).kind kind.end_block) (leb (get_or st (s + (f next).a) 0) m)
    ∷ given (eqb (f next).kind kind.tail_call) (leb (top_at_entry st s) m)
    ∷ given (leaves_frame (f next)) (leaves_good w f c m st (suc s) s)
    ∷ [])
