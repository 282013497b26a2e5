-- Well-formed tables are not broken: 35 is given for none of their rows, labels and counts.
-- Assumes nothing.
use mathlib.Core.Path.{◌≡◌, refl, sym, ◌∙◌, ap}
use mathlib.Core.Bool.{Bool, true, false, not}
use mathlib.Core.List.{List, [], ◌∷◌}
use Prim.Native.Nat.{ℕ, zero, suc, ◌<◌}
use native.Mathlib.Decide.{ℕ_discrete}
use native.Mathlib.Omega.{arith}
use borrow.Author.Tests.{eqb-true, leb-true, ltb-true, le-ltb, lt-leb}
use lib.Dec.{eqb, ltb, leb}
use Rattle.base_prelude.specs.Choice.{if_eq, if_true}
use Rattle.base_prelude.proofs.Choice.{if_eq-yes, if_eq-no, if_true-yes, if_true-no}
use Rattle.base_limits.specs.Limits as limits
use Rattle.base_limits.specs.Limits.{name_bytes, data_bytes, parameters}
use Rattle.lang_words.specs.Words.{number_of}
use Rattle.base_limits.specs.declared.Width.{Width}
use Rattle.prog_tables.specs.Tests.{both, one_of, all, some, some_below}
use Rattle.prog_tables.specs.Statement.{Row}
use Rattle.prog_tables.specs.Label.{Label, Tables, labels_of, is_data, is_function_label}
use Rattle.prog_tables.specs.Program.{Program, program_from}
use Rattle.prog_tables.specs.Nesting.{follows_jump}
use Rattle.prog_tables.specs.Faults.{row_fault, label_fault, count_fault, tables_fault}
use Rattle.prog_tables.specs.WellFormed.{names, name_good, counts_good, WellFormed}
use Rattle.prog_tables.proofs.Each.{both_left, both_right, all-at, counts-good, names_at, name-good-at}
use Rattle.prog_tables.proofs.Whole.{row-sound}

none_below : (p : ℕ → Bool) (n : ℕ) → ((i : ℕ) → i < n → p i ≡ false) → some_below p n ≡ false
unfolding some_below
none_below p zero h = refl
none_below p (suc n) h = ap (λ (b : Bool). one_of b (some_below p n)) (h n (omega arith)) ∙ none_below p n (λ i l. h i (omega arith))

not-both : (p : Bool) → p ≡ true → not p ≡ false
not-both true e = refl
not-both false e = sym e

-- ---- labels

abbrev places : (ℕ → Row) → Label → List Bool
places f l = eqb l.kind 5 ∷ not (eqb (f l.number).kind 1) ∷ not (follows_jump f l.number) ∷ []

abbrev kinds : (ℕ → Row) → Label → Bool
kinds f l = if_true (is_function_label l.kind) (eqb (f l.number).kind 1) (all (places f l))

abbrev sizes : Label → List Bool
sizes l = leb 1 l.size ∷ leb l.size name_bytes ∷ eqb (number_of l.name) 0 ∷ []

module _ (p : Program) (l : Label) where
  abbrev f : ℕ → Row
  f = p.rows

  abbrev c : ℕ
  c = p.count

  abbrev d : ℕ
  d = p.data_length

  what : names p l ≡ true → if_true (is_data l.kind) (ltb d l.number) (if_true (is_function_label l.kind) (not (both (ltb l.number c) (eqb (f l.number).kind 1))) (if_eq l.kind 5 (leb c l.number) (not (eqb l.kind 6)))) ≡ false
  unfolding names is_data is_function_label if_eq if_true
  what e =
      elim (ℕ_discrete l.kind 6) [
        | yes q ↦ rw q
        | no q ↦ plainly (ap (if_true (is_data l.kind) (leb l.number d)) (sym (if_eq-no (leb l.arguments parameters) (both (ltb l.number c) (kinds f l)) q)) ∙ e)
      ]
    where
      plainly : if_true (is_data l.kind) (leb l.number d) (both (ltb l.number c) (kinds f l)) ≡ true → if_true (is_data l.kind) (ltb d l.number) (if_true (is_function_label l.kind) (not (both (ltb l.number c) (eqb (f l.number).kind 1))) (if_eq l.kind 5 (leb c l.number) (not (eqb l.kind 6)))) ≡ false
      plainly e = split (is_data l.kind) refl
        where
          far : if_true (is_data l.kind) (leb l.number d) (both (ltb l.number c) (kinds f l)) ≡ true → is_data l.kind ≡ false → both (ltb l.number c) (kinds f l) ≡ true
          far e q = sym (if_true-no (leb l.number d) (both (ltb l.number c) (kinds f l)) q) ∙ e

          other : both (ltb l.number c) (kinds f l) ≡ true → (b : Bool) → is_function_label l.kind ≡ b
              → if_true (is_function_label l.kind) (not (both (ltb l.number c) (eqb (f l.number).kind 1))) (if_eq l.kind 5 (leb c l.number) (not (eqb l.kind 6))) ≡ false
          other g true q =
              if_true-yes (not (both (ltb l.number c) (eqb (f l.number).kind 1))) (if_eq l.kind 5 (leb c l.number) (not (eqb l.kind 6))) q
              ∙ not-both (both (ltb l.number c) (eqb (f l.number).kind 1))
              (ap (both (ltb l.number c)) (sym (if_true-yes (eqb (f l.number).kind 1) (all (places f l)) q)) ∙ g)
          other g false q =
              if_true-no (not (both (ltb l.number c) (eqb (f l.number).kind 1))) (if_eq l.kind 5 (leb c l.number) (not (eqb l.kind 6))) q
              ∙ if_eq-yes (leb c l.number) (not (eqb l.kind 6))
              (eqb-true l.kind 5 (all-at (places f l) 0 (sym (if_true-no (eqb (f l.number).kind 1) (all (places f l)) q) ∙ both_right (ltb l.number c) (kinds f l) g) (omega arith)))
              ∙ lt-leb c l.number (ltb-true l.number c (both_left (ltb l.number c) (kinds f l) g))

          split : (b : Bool) → is_data l.kind ≡ b → if_true (is_data l.kind) (ltb d l.number) (if_true (is_function_label l.kind) (not (both (ltb l.number c) (eqb (f l.number).kind 1))) (if_eq l.kind 5 (leb c l.number) (not (eqb l.kind 6)))) ≡ false
          split true q =
              if_true-yes (ltb d l.number) (if_true (is_function_label l.kind) (not (both (ltb l.number c) (eqb (f l.number).kind 1))) (if_eq l.kind 5 (leb c l.number) (not (eqb l.kind 6)))) q
              ∙ le-ltb d l.number (leb-true l.number d (sym (if_true-yes (leb l.number d) (both (ltb l.number c) (kinds f l)) q) ∙ e))
          split false q =
              if_true-no (ltb d l.number) (if_true (is_function_label l.kind) (not (both (ltb l.number c) (eqb (f l.number).kind 1))) (if_eq l.kind 5 (leb c l.number) (not (eqb l.kind 6)))) q
              ∙ other (far e q) (is_function_label l.kind) refl

  label-sound : names p l ≡ true → name_good l ≡ true → label_fault p l ≡ false
  unfolding label_fault name_good
  label-sound e g =
      ap (λ (b : Bool). one_of b (if_true (is_data l.kind) (ltb d l.number) (if_true (is_function_label l.kind) (not (both (ltb l.number c) (eqb (f l.number).kind 1))) (if_eq l.kind 5 (leb c l.number) (not (eqb l.kind 6))))))
      (le-ltb name_bytes l.size (leb-true l.size name_bytes (all-at (sizes l) 1 g (omega arith))))
      ∙ what e

-- ---- tables

abbrev pub counts : Program → List Bool
counts p =
    leb p.count limits.statements ∷ leb p.label_count limits.labels ∷ leb p.data_length data_bytes ∷ not p.statements_past ∷ not p.labels_past ∷ []

pub not-true : (b : Bool) → not b ≡ true → b ≡ false
not-true true e = sym e
not-true false e = refl

pub counts-sound : (p : Program) → counts_good p ≡ true → count_fault p ≡ false
unfolding count_fault counts_good
counts-sound p e =
    ap (λ (b : Bool). one_of b p.labels_past) (not-true p.statements_past (all-at (counts p) 3 e (omega arith)))
    ∙ not-true p.labels_past (all-at (counts p) 4 e (omega arith))

module _ (bits : Width) (t : Tables) (w : WellFormed (program_from bits t)) where
  -- well-formed tables give no 35
  pub tables-sound : tables_fault (program_from bits t) ≡ false
  unfolding tables_fault some
  tables-sound =
      rw (
        counts-sound (program_from bits t) (counts-good bits t w),
        none_below (row_fault (program_from bits t)) t.count (row-sound bits t w),
        none_below (λ n. label_fault (program_from bits t) (labels_of t n)) t.label_count
            (λ i l. label-sound (program_from bits t) (labels_of t i) (names_at bits t w i l) (name-good-at bits t w i l)),
      )
