-- The ranges that the code tests say what the table of shapes says.
-- Assumes nothing.
use mathlib.Core.Path.{◌≡◌, refl, sym, ◌∙◌, ap}
use mathlib.Core.Bool.{Bool, true, false}
use mathlib.Core.List.{List, [], ◌∷◌}
use Prim.Native.Nat.{ℕ, ◌≤◌, ◌<◌}
use native.Mathlib.Decide.{dec_lt}
use native.Mathlib.Omega.{arith}
use lib.Dec.{T, ltb}
use borrow.Author.Tests.{ltb-true, le-ltb}
use Rattle.base_prelude.specs.Choice.{if_lt, if_eq}
use Rattle.base_prelude.proofs.Choice.{if_lt-no, if_eq-no}
use Rattle.base_prelude.proofs.Table.{and, and_left, and_right, Each, each_at, under, under_at, agree, agree-is}
use Rattle.parse_lines.specs.declared.Span.{Span}
use Rattle.parse_shapes.specs.Shapes.{NoShape, Production, shapes, shape_in, shape_of, is_shaped, form_fits, ends_in_list, is_listed}
use Rattle.parse_shapes.specs.Forms.{later_fits, statement_fits, other_fits, ranged_form}

-- ---- numbers that are no kind

true-is : (b : Bool) → T b → b ≡ true
true-is true t = refl
true-is false t = absurd t

abbrev kinds_low : List Production → Bool
kinds_low [] = true
kinds_low (x ∷ xs) = and (ltb x.kind 37) (kinds_low xs)

past-table : (xs : List Production) (k : ℕ) → T (kinds_low xs) → 37 ≤ k → shape_in xs k ≡ NoShape
unfolding shape_in
past-table [] k t h = refl
past-table (x ∷ xs) k t h =
    let l : x.kind < 37 = ltb-true x.kind 37 (true-is (ltb x.kind 37) (and_left (ltb x.kind 37) (kinds_low xs) t)) in
    if_eq-no _ _ (λ e. let z : ⊥ = omega arith in z) ∙ past-table xs k (and_right (ltb x.kind 37) (kinds_low xs) t) h

pub past-shapes : (k : ℕ) → 37 ≤ k → shape_of k ≡ NoShape
unfolding shape_of shapes
past-shapes k h = past-table shapes k tt h

-- ---- forms

module _ (t : List ℕ) (u : Span) where
  abbrev Says : ℕ → Type 0
  Says k = form_fits t u k ≡ ranged_form t u k

  each-says : Each Says 37
  unfolding form_fits is_shaped shape_of shape_in shapes ranged_form statement_fits later_fits other_fits if_lt if_eq
  each-says = (((((((((((((((((((((((((((((((((((((tt, refl), refl), refl), refl), refl), refl), refl), refl), refl), refl), refl), refl), refl), refl), refl), refl), refl), refl), refl), refl), refl), refl), refl), refl), refl), refl), refl), refl), refl), refl), refl), refl), refl), refl), refl), refl), refl)

  past-form : (k : ℕ) → 37 ≤ k → ranged_form t u k ≡ false
  unfolding ranged_form other_fits
  past-form k h =
      if_lt-no _ _ (omega arith) ∙ if_eq-no _ _ (λ e. omega arith) ∙ if_eq-no _ _ (λ e. omega arith) ∙ if_eq-no _ _ (λ e. omega arith)
      ∙ if_eq-no _ _ (λ e. omega arith) ∙ if_eq-no _ _ (λ e. omega arith) ∙ if_eq-no _ _ (λ e. omega arith) ∙ le-ltb k 34 (omega arith)

  past-says : (k : ℕ) → 37 ≤ k → Says k
  unfolding form_fits is_shaped
  past-says k h = ap (is_shaped t u) (past-shapes k h) ∙ sym (past-form k h)

  pub forms-say : (k : ℕ) → form_fits t u k ≡ ranged_form t u k
  forms-say k = elim (dec_lt k 37) [ yes l ↦ each_at Says 37 k each-says l | no l ↦ past-says k (omega arith) ]

  pub form-by : (k : ℕ) (r : Bool) → r ≡ ranged_form t u k → r ≡ form_fits t u k
  form-by k r e = e ∙ sym (forms-say k)

-- ---- lists

abbrev pub listed_range : ℕ → Bool
listed_range k = if_eq k 1 true (if_lt k 5 false (if_lt k 8 true (if_lt k 11 false (if_lt k 14 true false))))

lists_agree : ℕ → Bool
lists_agree k = agree (is_listed k) (listed_range k)

lists_agree_lem : T (under lists_agree 37)
unfolding lists_agree is_listed ends_in_list shape_of shape_in shapes if_lt if_eq
lists_agree_lem = tt

past-list : (k : ℕ) → 37 ≤ k → listed_range k ≡ false
past-list k h =
    if_eq-no _ _ (λ e. omega arith) ∙ if_lt-no _ _ (omega arith) ∙ if_lt-no _ _ (omega arith) ∙ if_lt-no _ _ (omega arith) ∙ if_lt-no _ _ (omega arith)

pub listed-says : (k : ℕ) → is_listed k ≡ listed_range k
unfolding lists_agree is_listed ends_in_list
listed-says k =
    elim (dec_lt k 37) [
      | yes l ↦ agree-is (ends_in_list (shape_of k)) (listed_range k) (under_at lists_agree 37 k lists_agree_lem l)
      | no l ↦ ap ends_in_list (past-shapes k (omega arith)) ∙ sym (past-list k (omega arith))
    ]

pub listed_by : (k : ℕ) (b : Bool) → b ≡ listed_range k → b ≡ is_listed k
listed_by k b e = e ∙ sym (listed-says k)
