-- The first number of a range that passes a test, as `find` over the range gives it.
-- Assumes nothing.
use mathlib.Core.Path.{◌≡◌, sym, ◌∙◌, ap}
use mathlib.Core.Bool.{Bool, true, false}
use Prim.Native.Nat.{ℕ, zero, suc, ◌+◌, ◌-◌, ◌≤◌, ◌<◌, max}
use native.Mathlib.Decide.{ℕ_discrete}
use native.Mathlib.Omega.{arith}
use Rattle.std.specs.Option.{MatchOption, unwrap_or}
use Rattle.std.specs.declared.option.Option.{Option}
use Rattle.std.specs.declared.option.Option.TheVariants.{Some, None}
use Rattle.base_prelude.specs.Choice.{pick}
use Rattle.prog_tables.specs.Tests.{first_from}

-- r is the first of the numbers from a on, below b, that passes p
abbrev pub FirstOf : (ℕ → Bool) → ℕ → ℕ → Option ℕ → Type 0
FirstOf p a b r =
    MatchOption r ((k : ℕ) → a ≤ k → k < b → p k ≡ false)
    (λ i. (a ≤ i) × (i < b) × (p i ≡ true) × ((k : ℕ) → a ≤ k → k < i → p k ≡ false))

first-none : (p : ℕ → Bool) (left a : ℕ) → ((k : ℕ) → a ≤ k → k < a + left → p k ≡ false) → a + left ≡ first_from p left a
unfolding first_from
first-none p zero a h = omega arith
first-none p (suc left) a h =
    let e : p a ≡ false = h a (omega arith) (omega arith) in
    let r = first-none p left (suc a) (λ k l m. h k (omega arith) (omega arith)) in
    rw e (let z : a + suc left ≡ suc a + left = omega arith in z ∙ r)

first-hit : (p : ℕ → Bool) (left a i : ℕ) → a ≤ i → i < a + left → p i ≡ true → ((k : ℕ) → a ≤ k → k < i → p k ≡ false) → i ≡ first_from p left a
unfolding first_from
first-hit p zero a i l m e h = let z : ⊥ = omega arith in absurd z
first-hit p (suc left) a i l m e h =
    elim (ℕ_discrete a i) [
      | yes q ↦ sym (ap (λ (b : Bool). pick b a (first_from p left (suc a))) (ap p q ∙ e) ∙ q)
      | no q ↦
          let d : p a ≡ false = h a (omega arith) (omega arith) in
          rw d (first-hit p left (suc a) i (omega arith) (omega arith) e (λ k g f. h k (omega arith) f))
    ]

-- the first that `find` gives, or else the number behind the range
pub first-is : (p : ℕ → Bool) (a b : ℕ) (r : Option ℕ) → a ≤ b → FirstOf p a b r → unwrap_or r b ≡ first_from p (b - a) a
first-is p a b None l h =
    let z : a + (b - a) ≡ b = omega arith in
    sym z ∙ first-none p (b - a) a (λ k g f. h k g (omega arith))
first-is p a b (Some i) l h = first-hit p (b - a) a i h.0 (omega (arith, h.1)) h.2 h.3

pub first-within : (p : ℕ → Bool) (a b : ℕ) (r : Option ℕ) → FirstOf p a b r → unwrap_or r b ≤ b
first-within p a b None h = omega arith
first-within p a b (Some i) h = omega (arith, h.1)

-- the same where the range may be empty with its end below its start
pub first-else : (p : ℕ → Bool) (a b e : ℕ) (r : Option ℕ) → e ≡ max b a → FirstOf p a b r → unwrap_or r e ≡ first_from p (b - a) a
first-else p a b e None q h =
    let z : e ≡ a + (b - a) = omega arith in
    z ∙ first-none p (b - a) a (λ k g f. h k g (omega arith))
first-else p a b e (Some i) q h = first-hit p (b - a) a i h.0 (omega (arith, h.1)) h.2 h.3
