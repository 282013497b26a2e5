-- The choices of specs/Choice, from the fact that a branch of the code gives. In the first group z is the code's answer and the
-- law goes from the choice to its arm, so that `search tests` follows a definition along the branches that were taken.
-- Assumes nothing.
use mathlib.Core.Path.{◌≡◌, refl, sym, subst, ◌∙◌, ap}
use mathlib.Core.Bool.{Bool, true, false, not}
use Prim.Native.Nat.{ℕ, ◌<◌, ◌≤◌}
use native.Mathlib.Decide.{dec_lt, ℕ_discrete}
use native.Mathlib.Omega.{arith}
use lib.Dec.{T, T_not, eqb, eqb_refl}
use borrow.Author.Tests.{lt-ltb, le-ltb, eq-eqb, ne_eqb}
use Rattle.base_prelude.specs.Choice.{pick, if_lt, if_eq, if_true}

not-lt : (a b : ℕ) → ¬ (a < b) → b ≤ a
not-lt a b h = omega arith

-- true and false differ
pub true-false : {P : Type 0} → true ≡ false → P
true-false e = absurd (subst (λ (b : Bool). T b) e tt)

module _ {ℓ} {X : Type ℓ} where
  pub if_lt-yes : {a b : ℕ} (x y : X) → a < b → if_lt a b x y ≡ x
  unfolding if_lt
  if_lt-yes {a} {b} x y h = ap (λ (t : Bool). pick t x y) (lt-ltb a b h)

  pub if_lt-no : {a b : ℕ} (x y : X) → b ≤ a → if_lt a b x y ≡ y
  unfolding if_lt
  if_lt-no {a} {b} x y h = ap (λ (t : Bool). pick t x y) (le-ltb a b h)

  pub if_eq-yes : {a b : ℕ} (x y : X) → a ≡ b → if_eq a b x y ≡ x
  unfolding if_eq
  if_eq-yes {a} {b} x y h = ap (λ (t : Bool). pick t x y) (eq-eqb a b h)

  pub if_eq-no : {a b : ℕ} (x y : X) → (a ≡ b → ⊥) → if_eq a b x y ≡ y
  unfolding if_eq
  if_eq-no {a} {b} x y h = ap (λ (t : Bool). pick t x y) (ne_eqb a b h)

  pub if_true-yes : {b : Bool} (x y : X) → b ≡ true → if_true b x y ≡ x
  unfolding if_true
  if_true-yes x y h = ap (λ (t : Bool). pick t x y) h

  pub if_true-no : {b : Bool} (x y : X) → b ≡ false → if_true b x y ≡ y
  unfolding if_true
  if_true-no x y h = ap (λ (t : Bool). pick t x y) h

  pub is_lt : (a b : ℕ) (x y z : X) → a < b → z ≡ x → z ≡ if_lt a b x y
  is_lt a b x y z h e = e ∙ sym (if_lt-yes x y h)

  pub is_ge : (a b : ℕ) (x y z : X) → b ≤ a → z ≡ y → z ≡ if_lt a b x y
  is_ge a b x y z h e = e ∙ sym (if_lt-no x y h)

  pub is_eq : (a b : ℕ) (x y z : X) → a ≡ b → z ≡ x → z ≡ if_eq a b x y
  is_eq a b x y z h e = e ∙ sym (if_eq-yes x y h)

  pub is_ne : (a b : ℕ) (x y z : X) → (a ≡ b → ⊥) → z ≡ y → z ≡ if_eq a b x y
  is_ne a b x y z h e = e ∙ sym (if_eq-no x y h)

  -- an arm of a match says which key the number is: it is none of the others
  pub is-other : (a b k : ℕ) (x y z : X) → a ≡ k → T (not (eqb k b)) → z ≡ y → z ≡ if_eq a b x y
  is-other a b k x y z h t e =
      is_ne a b x y z (λ q. T_not (eqb k b) t (subst (λ (n : ℕ). T (eqb k n)) (sym h ∙ q) (eqb_refl k))) e

  pub is-yes : (b : Bool) (x y z : X) → b ≡ true → z ≡ x → z ≡ if_true b x y
  is-yes b x y z h e = e ∙ sym (if_true-yes x y h)

  pub is-no : (b : Bool) (x y z : X) → b ≡ false → z ≡ y → z ≡ if_true b x y
  is-no b x y z h e = e ∙ sym (if_true-no x y h)

  -- what holds of both arms holds of the choice
  pub either : (P : X → Type 0) (a b : ℕ) (x y : X) → (a < b → P x) → (b ≤ a → P y) → P (if_lt a b x y)
  either P a b x y f g =
      elim (dec_lt a b) [
        | yes h ↦ subst P (sym (if_lt-yes x y h)) (f h)
        | no h ↦ subst P (sym (if_lt-no x y (not-lt a b h))) (g (not-lt a b h))
      ]

  pub either-eq : (P : X → Type 0) (a b : ℕ) (x y : X) → (a ≡ b → P x) → ((a ≡ b → ⊥) → P y) → P (if_eq a b x y)
  either-eq P a b x y f g =
      elim (ℕ_discrete a b) [ yes h ↦ subst P (sym (if_eq-yes x y h)) (f h) | no h ↦ subst P (sym (if_eq-no x y h)) (g h) ]

  pub either_true : (P : X → Type 0) (b : Bool) (x y : X) → (b ≡ true → P x) → (b ≡ false → P y) → P (if_true b x y)
  unfolding if_true
  either_true P true x y f g = f refl
  either_true P false x y f g = g refl

pub ruleset tests = (tt, is_lt, is_ge, is_eq, is_ne, is-other, is-yes, is-no)
