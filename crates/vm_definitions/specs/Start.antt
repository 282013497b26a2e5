-- Start: "Start order: 35, 20, 21, 22, 23. [..] A refused start changes nothing."
-- Assumes nothing.
use Rattle.std.specs.Prelude.{ℕ, suc, Bool, List, [], ◌∷◌, ltb, eqb, length, take, Ok, Err, Result}
use Rattle.base_prelude.specs.Choice.{if_lt, if_eq, if_true}
use Rattle.base_prelude.specs.Lists.{same_list}
use Rattle.base_limits.specs.Limits.{stack_words}
use Rattle.base_limits.specs.Width.{memory_limit}
use Rattle.base_limits.specs.Record.{fresh_of, mark}
use Rattle.prog_tables.specs.Layout.{exported_function}
use Rattle.prog_tables.specs.Tests.{both, one_of, first_from}
use Rattle.prog_tables.specs.Program.{Program}
use Rattle.vm_definitions.specs.Access.{store_from}
use Rattle.vm_definitions.specs.Frames.{frame_words}
use Rattle.vm_definitions.specs.Broken.{start_broken}
use Rattle.vm_definitions.specs.Step.{World}
use Rattle.vm_definitions.specs.declared.Broken.{Broken}
use Rattle.vm_definitions.specs.declared.Broken.TheVariants.{No, At, Somewhere}
use Rattle.vm_definitions.specs.declared.StartError.TheVariants.{Refused, Unsound}
use Rattle.vm_definitions.specs.declared.StartError.{StartError}

-- a start has begun, or why not
abbrev pub Started : Type 0
Started = Result (Unit {0}) StartError

-- label i is an exported function of that name: "only when all their bytes agree"
unfoldable pub exports_as : Program → List ℕ → ℕ → Bool
exports_as p name i = both (eqb (p.labels i).kind exported_function) (same_list (p.labels i).name name)

-- the first such label; the count of labels without one
unfoldable pub export_of : Program → List ℕ → ℕ
export_of p name = first_from (exports_as p name) p.label_count 0

module _ (p : Program) (bytes name args : List ℕ) (x : World) where
  -- the function's statement
  abbrev pub started_function : ℕ
  started_function = (p.labels (export_of p name)).number

  abbrev pub started_size : ℕ
  started_size = (p.rows started_function).a

  -- "no exported function of that name / argument count", "memory shorter than the data or too long / stack shorter than the first
  -- frame or too long"
  unfoldable pub start_answer : Started
  start_answer =
      if_lt (export_of p name) p.label_count
      (if_eq (length args) (p.rows started_function).b
      (if_true (one_of (ltb (length x.memory) p.data_length) (ltb (memory_limit p.width) (length x.memory))) (Err (Refused 22))
      (if_true (one_of (ltb (length x.stack) started_size) (ltb stack_words (length x.stack))) (Err (Refused 23)) (Ok tt)))
      (Err (Refused 21)))
      (Err (Refused 20))

  -- "Starting writes the data at 0, sets the auto top to the data's length and leaves other memory."
  unfoldable pub start_world : World
  start_world =
      record {
        machine = fresh_of (suc started_function) started_size p.data_length;
        stack = store_from x.stack 0 (frame_words p.width (mark p.width) (mark p.width) p.data_length args started_size);
        memory = store_from x.memory 0 (take p.data_length bytes);
      }

  unfoldable pub start_by : Broken → Started
  start_by No = start_answer
  start_by (At i) = Err (Unsound (At i))
  start_by Somewhere = Err (Unsound Somewhere)

  unfoldable pub begun_by : Started → World
  begun_by (Ok _) = start_world
  begun_by (Err (Refused k)) = x
  begun_by (Err (Unsound b)) = x

  -- its answer, and the world it leaves
  unfoldable pub start_of : Started
  start_of = start_by (start_broken p (length bytes))

  unfoldable pub start_leaves : World
  start_leaves = begun_by start_of
