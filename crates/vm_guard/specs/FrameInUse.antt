-- The frame in use, tested once for all statements inside it.
-- Assumes nothing.
use Rattle.std.specs.Prelude.{ℕ, ◌+◌, Bool, false, List, length}
use Rattle.base_prelude.specs.Choice.{if_lt, if_eq, if_true}
use Rattle.base_limits.specs.Limits.{memory_bytes, stack_words}
use Rattle.base_limits.specs.declared.Width.TheVariants.{Bits32}
use Rattle.base_limits.specs.declared.Machine.{Machine}
use Rattle.prog_tables.specs.Statement.{Row}
use Rattle.vm_definitions.specs.Frames.{head_good}
use Rattle.vm_quick_operands.specs.Fast.{size_of}

-- the record's numbers, what is lent and the head of the frame are good, the frame having z words; m bytes of memory
unfoldable pub frame_good : (ℕ → Row) → ℕ → ℕ → Machine → ℕ → List ℕ → Bool
frame_good f c m r z st =
    if_lt m r.top false
    (if_lt memory_bytes m false
    (if_lt stack_words (length st) false
    (if_lt (length st) r.used false
    (if_eq (r.frame + z) r.used (head_good Bits32 f c st r.frame) false))))

-- the words of the frame in use, where the record stands in a good one; else 0
unfoldable pub good_frame_size : (ℕ → Row) → ℕ → ℕ → Machine → List ℕ → ℕ
good_frame_size f c m r st =
    if_lt r.next c (if_true (frame_good f c m r (size_of f c (f r.next).func) st) (size_of f c (f r.next).func) 0) 0
