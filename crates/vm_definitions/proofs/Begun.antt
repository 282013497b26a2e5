-- An accepted start: the invariant holds, with the started function alone in the ledger.
-- Assumes nothing.
use Rattle.std.proofs.Common.{Ok, Err}
use mathlib.Core.Path.{◌≡◌, refl, sym, ◌∙◌, ap, subst}
use Prim.Native.Nat.{ℕ, zero, suc, ◌+◌, ◌<◌, ◌≤◌}
use mathlib.Core.Bool.{Bool, true, false, not}
use mathlib.Core.Option.{none}
use mathlib.Core.List.{List, [], ◌∷◌}
use native.Mathlib.Omega.{arith}
use borrow.Author.Tests.{eqb-true, ltb-true, ltb-false}
use lib.Dec.{eqb, ltb, leb}
use lib.ListN.{get_or, length, take}
use Rattle.base_prelude.specs.Choice.{pick, if_eq}
use Rattle.base_prelude.specs.Lists.{same_list}
use Rattle.base_prelude.proofs.Choice.{true-false, either, either-eq, either_true, if_eq-no, if_true-yes, if_true-no}
use Rattle.base_limits.specs.Limits.{parameters, stack_words}
use Rattle.base_limits.specs.Width.{memory_limit}
use Rattle.base_limits.specs.declared.Width.{Width}
use Rattle.base_limits.specs.Record.{fresh_of, mark}
use Rattle.prog_tables.specs.Layout.{import_label}
use Rattle.prog_tables.specs.Tests.{both, one_of, all, first_from}
use Rattle.prog_tables.specs.Label.{Tables, rows, labels_of, is_data, is_function_label}
use Rattle.prog_tables.specs.Program.{program_from}
use Rattle.prog_tables.specs.Nesting.{encloses, follows_jump}
use Rattle.prog_tables.specs.Frames.{frame_depth}
use Rattle.prog_tables.specs.WellFormed.{names, WellFormed}
use Rattle.prog_tables.proofs.Each.{both_left, both_right, names_at}
use Rattle.prog_laws.proofs.Next.{next-in, next-function, func-self}
use Rattle.prog_laws.proofs.Rows.{marks}
use Rattle.vm_definitions.specs.Access.{store_from}
use Rattle.vm_definitions.specs.Frames.{frame_words, top_at_entry}
use Rattle.vm_definitions.specs.Broken.{start_broken}
use Rattle.vm_definitions.specs.Step.{World}
use Rattle.vm_definitions.specs.Start.{exports_as, export_of, started_function, start_answer, start_world, start_by, begun_by, start_of, start_leaves}
use Rattle.vm_definitions.specs.declared.Broken.{Broken}
use Rattle.vm_definitions.specs.declared.Broken.TheVariants.{No, At, Somewhere}
use Rattle.vm_definitions.specs.Start.{Started}
use Rattle.vm_definitions.specs.declared.StartError.TheVariants.{Refused, Unsound}
use Rattle.vm_definitions.proofs.Invariant.{FrameAt, FirstHead, Under, Invariant}
use Rattle.vm_definitions.proofs.Stores.{store_length, store_at}
use Rattle.vm_definitions.proofs.Words.{memory_word, mark-word}
use Rattle.vm_definitions.proofs.Places.{around-function}

-- ---- the first row of a function

module _ (w : Width) (t : Tables) (good : WellFormed (program_from w t)) where
  pub first_frame : (m : ℕ) (st : List ℕ) (g s : ℕ) → g < t.count → (rows t g).kind ≡ 1 → top_at_entry st s ≤ m → FrameAt w t m st g s (suc g)
  first_frame m st g s h k l =
      record {
        within = (next-in w t good g h no_end).within;
        inside = (next-in w t good g h no_end).no-function;
        func = (next-in w t good g h no_end).same ∙ func-self w t good g h k;
        top = l;
        blocks = λ b q r d. absurd (around-function (rows t) 16 b g k r (ap (encloses (rows t) frame_depth b) (sym (next-function w t good g h no_end k)) ∙ d));
      }
    where
      no_end : (rows t g).kind ≡ 2 → ⊥
      no_end d = omega arith

-- ---- small facts

first_found : (p : ℕ → Bool) (left i : ℕ) → first_from p left i < i + left → p (first_from p left i) ≡ true
unfolding first_from
first_found p zero i h = absurd (omega arith)
first_found p (suc left) i h = split (p i) refl (first_found p left (suc i)) h
  where
    split : (b : Bool) → p i ≡ b → (first_from p left (suc i) < suc i + left → p (first_from p left (suc i)) ≡ true) → pick b i (first_from p left (suc i)) < i + suc left → p (pick b i (first_from p left (suc i))) ≡ true
    split true e on h = e
    split false e on h = on (omega arith)

no-data : is_data 4 ≡ false
unfolding is_data if_eq
no-data = refl

function-label : is_function_label 4 ≡ true
unfolding is_function_label if_eq
function-label = refl

neither_left : (a b : Bool) → one_of a b ≡ false → a ≡ false
neither_left true b e = e
neither_left false b e = refl

neither_right : (a b : Bool) → one_of a b ≡ false → b ≡ false
neither_right true b e = true-false e
neither_right false b e = e

is_begun : Started → Bool
is_begun (Ok _) = true
is_begun (Err (Refused k)) = false
is_begun (Err (Unsound b)) = false

refused : {P : Type 0} (k : ℕ) → ◌≡◌ {A = Started} (Err (Refused k)) (Ok tt) → P
unfolding is_begun
refused k q = true-false (sym (ap is_begun q))

unsound : {P : Type 0} (b : Broken) → ◌≡◌ {A = Started} (Err (Unsound b)) (Ok tt) → P
unfolding is_begun
unsound b q = true-false (sym (ap is_begun q))

-- ---- what an accepted start was given

pub record Accepted (w : Width) (t : Tables) (name args : List ℕ) (x : World) : Type 0 where
  pub label : export_of (program_from w t) name < t.label_count
  pub arguments : length args ≡ (rows t (labels_of t (export_of (program_from w t) name)).number).b
  pub data-fits : t.data_length ≤ length x.memory
  pub short : length x.memory ≤ memory_limit w
  pub room : (rows t (labels_of t (export_of (program_from w t) name)).number).a ≤ length x.stack
  pub few : length x.stack ≤ stack_words

module _ (w : Width) (t : Tables) (bytes name args : List ℕ) (x : World) where
  answer-begun : start_by (program_from w t) bytes name args x (start_broken (program_from w t) (length bytes)) ≡ Ok tt → start_answer (program_from w t) bytes name args x ≡ Ok tt
  unfolding start_by
  answer-begun = by (start_broken (program_from w t) (length bytes))
    where
      by : (b : Broken) → start_by (program_from w t) bytes name args x b ≡ Ok tt → start_answer (program_from w t) bytes name args x ≡ Ok tt
      by No e = e
      by (At i) e = unsound (At i) e
      by Somewhere e = unsound Somewhere e

  answer-facts : start_answer (program_from w t) bytes name args x ≡ Ok tt → Accepted w t name args x
  unfolding start_answer
  answer-facts h =
      either (λ (z : Started). z ≡ Ok tt → Accepted w t name args x) (export_of (program_from w t) name) t.label_count _ (Err (Refused 20))
      (λ l. either-eq (λ (z : Started). z ≡ Ok tt → Accepted w t name args x) (length args) (rows t (labels_of t (export_of (program_from w t) name)).number).b _ (Err (Refused 21))
      (λ a. either_true (λ (z : Started). z ≡ Ok tt → Accepted w t name args x) (one_of (ltb (length x.memory) t.data_length) (ltb (memory_limit w) (length x.memory))) (Err (Refused 22)) _
      (λ d. refused 22)
      (λ d. either_true (λ (z : Started). z ≡ Ok tt → Accepted w t name args x) (one_of (ltb (length x.stack) (rows t (labels_of t (export_of (program_from w t) name)).number).a) (ltb stack_words (length x.stack))) (Err (Refused 23)) (Ok tt)
      (λ c. refused 23)
      (λ c q.
      record {
        label = l;
        arguments = a;
        data-fits = ltb-false _ _ (neither_left (ltb (length x.memory) t.data_length) (ltb (memory_limit w) (length x.memory)) d);
        short = ltb-false _ _ (neither_right (ltb (length x.memory) t.data_length) (ltb (memory_limit w) (length x.memory)) d);
        room = ltb-false _ _ (neither_left (ltb (length x.stack) (rows t (labels_of t (export_of (program_from w t) name)).number).a) (ltb stack_words (length x.stack)) c);
        few = ltb-false _ _ (neither_right (ltb (length x.stack) (rows t (labels_of t (export_of (program_from w t) name)).number).a) (ltb stack_words (length x.stack)) c);
      })))
      (λ a. refused 21))
      (λ l. refused 20) h

  pub start-facts : start_of (program_from w t) bytes name args x ≡ Ok tt → Accepted w t name args x
  unfolding start_of
  start-facts h = answer-facts (answer-begun h)

-- ---- the started function is one

pub record Function (t : Tables) (g : ℕ) : Type 0 where
  pub within : g < t.count
  pub is-function : (rows t g).kind ≡ 1

module _ (w : Width) (t : Tables) (good : WellFormed (program_from w t)) (name : List ℕ) (h : export_of (program_from w t) name < t.label_count) where
  found-export : exports_as (program_from w t) name (export_of (program_from w t) name) ≡ true
  unfolding export_of
  found-export = first_found (exports_as (program_from w t) name) t.label_count 0 (omega (arith, h))

  export-kind : (labels_of t (export_of (program_from w t) name)).kind ≡ 4
  unfolding exports_as
  export-kind = eqb-true _ _ (both_left (eqb (labels_of t (export_of (program_from w t) name)).kind 4) (same_list (labels_of t (export_of (program_from w t) name)).name name) found-export)

  abbrev line : List Bool
  line = eqb (labels_of t (export_of (program_from w t) name)).kind 5 ∷ not (eqb (rows t (labels_of t (export_of (program_from w t) name)).number).kind 1) ∷ not (follows_jump (rows t) (labels_of t (export_of (program_from w t) name)).number) ∷ []

  export-tests : both (ltb (labels_of t (export_of (program_from w t) name)).number t.count) (eqb (rows t (labels_of t (export_of (program_from w t) name)).number).kind 1) ≡ true
  unfolding names
  export-tests =
      ap (both (ltb (labels_of t (export_of (program_from w t) name)).number t.count))
      (sym (if_true-yes (eqb (rows t (labels_of t (export_of (program_from w t) name)).number).kind 1) (all line) (ap is_function_label export-kind ∙ function-label)))
      ∙ sym (if_eq-no (leb (labels_of t (export_of (program_from w t) name)).arguments parameters) _ (λ (z : (labels_of t (export_of (program_from w t) name)).kind ≡ import_label). omega (arith, export-kind)))
      ∙ sym (if_true-no (leb (labels_of t (export_of (program_from w t) name)).number t.data_length) _ (ap is_data export-kind ∙ no-data))
      ∙ names_at w t good (export_of (program_from w t) name) h

  pub export-function : Function t (labels_of t (export_of (program_from w t) name)).number
  export-function =
      record {
        within = ltb-true _ _ (both_left (ltb (labels_of t (export_of (program_from w t) name)).number t.count) (eqb (rows t (labels_of t (export_of (program_from w t) name)).number).kind 1) export-tests);
        is-function = eqb-true _ _ (both_right (ltb (labels_of t (export_of (program_from w t) name)).number t.count) (eqb (rows t (labels_of t (export_of (program_from w t) name)).number).kind 1) export-tests);
      }

-- ---- the world that it leaves

module _ (w : Width) (t : Tables) (good : WellFormed (program_from w t)) (bytes name args : List ℕ) (x : World) where
  start-kept : Accepted w t name args x → Invariant w t (record { func = started_function (program_from w t) bytes name args x; call = none }) [] (start_world (program_from w t) bytes name args x)
  unfolding start_world fresh_of frame_words Under
  start-kept a =
      record {
        frame = first_frame w t good _ _ (labels_of t (export_of (program_from w t) name)).number 0 g.within g.is-function (omega (arith, memory, a.data-fits, word 2 (omega arith), memory_word w t.data_length (omega (arith, a.data-fits, a.short))));
        under = record { at = refl; place = word 0 (omega arith) ∙ mark-word w; caller = word 1 (omega arith) ∙ mark-word w };
        ends = omega arith;
        lent = omega (arith, stack, a.room);
        few = omega (arith, stack, a.few);
        top = omega (arith, memory, a.data-fits);
        data-fits = omega (arith, memory, a.data-fits);
        short = omega (arith, memory, a.short);
      }
    where
      g : Function t (labels_of t (export_of (program_from w t) name)).number
      g = export-function w t good name a.label

      written : List ℕ
      written = frame_words w (mark w) (mark w) t.data_length args (rows t (labels_of t (export_of (program_from w t) name)).number).a

      memory : length (store_from x.memory 0 (take t.data_length bytes)) ≡ length x.memory
      memory = store_length x.memory 0 (take t.data_length bytes)

      stack : length (store_from x.stack 0 written) ≡ length x.stack
      stack = store_length x.stack 0 written

      word : (j : ℕ) → j < 3 → get_or (store_from x.stack 0 written) (0 + j) 0 ≡ get_or written j 0
      word j l = store_at x.stack 0 written j (omega (arith, a.room, (marks w t good (labels_of t (export_of (program_from w t) name)).number g.within g.is-function).head)) (omega arith)

  pub begun : start_of (program_from w t) bytes name args x ≡ Ok tt → Invariant w t (record { func = started_function (program_from w t) bytes name args x; call = none }) [] (start_leaves (program_from w t) bytes name args x)
  unfolding start_leaves begun_by
  begun h =
      subst (λ (z : Started). Invariant w t (record { func = started_function (program_from w t) bytes name args x; call = none }) [] (begun_by (program_from w t) bytes name args x z)) (sym h)
      (start-kept (start-facts w t bytes name args x h))
