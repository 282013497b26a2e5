-- How many rows a line makes.
-- Assumes nothing.
use mathlib.Core.Path.{◌≡◌, refl}
use Prim.Native.Nat.{ℕ, ◌≤◌}
use native.Mathlib.Omega.{arith}
use Rattle.base_prelude.proofs.Choice.{either, either-eq}
use Rattle.lang_kinds.specs.Nesting.{rows_of}

pub rows_few : (k : ℕ) → rows_of k ≤ 2
unfolding rows_of
rows_few k =
    either-eq (λ (r : ℕ). r ≤ 2) k 0 _ _ (λ _. omega arith) (λ _.
    either-eq (λ (r : ℕ). r ≤ 2) k 21 _ _ (λ _. omega arith) (λ _.
    either (λ (r : ℕ). r ≤ 2) k 25 _ _ (λ _. omega arith) (λ _. omega arith)))

-- a line of one row is no else-if line
pub rows-one : (k : ℕ) → rows_of k ≡ 1 → k ≡ 21 → ⊥
unfolding rows_of
rows-one k =
    either-eq (λ (m : ℕ). m ≡ 1 → k ≡ 21 → ⊥) k 0 _ _ (λ _ h _. let z : ⊥ = omega arith in z) (λ _.
    either-eq (λ (m : ℕ). m ≡ 1 → k ≡ 21 → ⊥) k 21 _ _ (λ _ h _. let z : ⊥ = omega arith in z) (λ d _ e. d e))

-- and one of more is one
pub rows-two : (k : ℕ) → (rows_of k ≡ 0 → ⊥) → (rows_of k ≡ 1 → ⊥) → k ≡ 21
unfolding rows_of
rows-two k =
    either-eq (λ (m : ℕ). (m ≡ 0 → ⊥) → (m ≡ 1 → ⊥) → k ≡ 21) k 0 _ _ (λ _ f _. absurd (f refl)) (λ _.
    either-eq (λ (m : ℕ). (m ≡ 0 → ⊥) → (m ≡ 1 → ⊥) → k ≡ 21) k 21 _ _ (λ e _ _. e) (λ _.
    either (λ (m : ℕ). (m ≡ 0 → ⊥) → (m ≡ 1 → ⊥) → k ≡ 21) k 25 _ _ (λ _ _ f. absurd (f refl)) (λ _ f _. absurd (f refl))))
