-- A start's answer and the world it leaves, side by side; and the parts of it that the code decides one after another.
-- Assumes nothing.
use Rattle.std.specs.Prelude.{ℕ, suc, Bool, not, List, [], ◌∷◌, ltb, leb, eqb, length, take, Ok, Err}
use Rattle.base_prelude.specs.Choice.{if_eq, if_true}
use Rattle.base_limits.specs.Limits.{stack_words}
use Rattle.base_limits.specs.Width.{memory_limit}
use Rattle.base_limits.specs.declared.Width.{Width}
use Rattle.base_limits.specs.Record.{fresh_of, mark}
use Rattle.base_limits.specs.declared.Width.TheVariants.{Bits32}
use Rattle.lang_kinds.specs.Kinds as kind
use Rattle.prog_tables.specs.Layout.{place_label, import_label}
use Rattle.prog_tables.specs.Tests.{both, one_of, some, some_below}
use Rattle.prog_tables.specs.Statement.{Row}
use Rattle.prog_tables.specs.Label.{is_data, is_function_label}
use Rattle.prog_tables.specs.Program.{Program, program_from}
use Rattle.prog_tables.specs.Faults.{row_fault, label_fault}
use Rattle.vm_definitions.specs.Access.{store_from}
use Rattle.vm_definitions.specs.Frames.{frame_words}
use Rattle.vm_definitions.specs.Broken.{or_else, lowest, numbers_below}
use Rattle.vm_definitions.specs.Step.{World}
use Rattle.vm_definitions.specs.Start.{start_of, start_leaves}
use Rattle.vm_definitions.specs.Lent.{tables_of, world}
use Rattle.vm_definitions.specs.declared.Broken.{Broken}
use Rattle.vm_definitions.specs.declared.Broken.TheVariants.{No, Somewhere}
use Rattle.vm_definitions.specs.declared.Opening.{Opening}
use Rattle.vm_definitions.specs.Start.{Started}
use Rattle.vm_definitions.specs.declared.StartError.TheVariants.{Refused}

pub record Opened : Type 0 where
  pub answer : Started
  pub world : World

-- what the code gives back, with the stack and the memory at exit
abbrev pub opened : Opening → List ℕ → List ℕ → Opened
opened o st m = record { answer = o.answer; world = world o.machine st m }

-- what a start is
abbrev pub opening_of : Program → List ℕ → List ℕ → List ℕ → World → Opened
opening_of p bytes name args x = record { answer = start_of p bytes name args x; world = start_leaves p bytes name args x }

-- the labels alone
abbrev pub labels_alone : List ℕ → ℕ → List ℕ → Program
labels_alone l k names = program_from Bits32 (tables_of [] 0 l k names 0)

-- no function of c rows at n
abbrev pub no_function : (ℕ → Row) → ℕ → ℕ → Bool
no_function f c n = not (both (ltb n c) (eqb (f n).kind kind.function))

-- a label of kind k with number n is broken, its name aside
unfoldable pub aim_fault : (ℕ → Row) → ℕ → ℕ → ℕ → ℕ → Bool
aim_fault f c d k n =
    if_true (is_data k) (ltb d n) (if_true (is_function_label k) (no_function f c n) (if_eq k place_label (leb c n) (not (eqb k import_label))))

-- what is broken beside the rows, n bytes of data being lent: the count of labels, the data's length, a label
unfoldable pub rest_fault : Program → ℕ → Bool
rest_fault p n = some (p.labels_past ∷ ltb n p.data_length ∷ some_below (λ i. label_fault p (p.labels i)) p.label_count ∷ [])

-- 35 of the rows, then of the rest
unfoldable pub rows_broken : Program → ℕ → Broken
rows_broken p n = or_else (lowest (row_fault p) (numbers_below p.count)) (if_true (rest_fault p n) Somewhere No)

-- ---- the parts behind the label: function row g, its frame of `size` words, d bytes of data

abbrev pub refused_with : ℕ → World → Opened
refused_with k x = record { answer = Err (Refused k); world = x }

unfoldable pub begun_at : Width → ℕ → ℕ → ℕ → List ℕ → List ℕ → List ℕ → List ℕ → World
begun_at w g size d bytes args st m =
    record {
      machine = fresh_of (suc g) size d;
      stack = store_from st 0 (frame_words w (mark w) (mark w) d args size);
      memory = store_from m 0 (take d bytes);
    }

-- 22, 23, or the first frame
unfoldable pub fitted_of : Width → ℕ → ℕ → ℕ → List ℕ → List ℕ → World → Opened
fitted_of w g size d bytes args x =
    if_true (one_of (ltb (length x.memory) d) (ltb (memory_limit w) (length x.memory))) (refused_with 22 x)
    (if_true (one_of (ltb (length x.stack) size) (ltb stack_words (length x.stack))) (refused_with 23 x)
    (record { answer = Ok tt; world = begun_at w g size d bytes args x.stack x.memory }))

-- 21, then these
unfoldable pub entered_of : Width → (ℕ → Row) → ℕ → ℕ → List ℕ → List ℕ → World → Opened
entered_of w f g d bytes args x =
    if_eq (length args) (f g).b (fitted_of w g (f g).a d bytes args x) (refused_with 21 x)
