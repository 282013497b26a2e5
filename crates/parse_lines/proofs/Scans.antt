-- Reads of the token table, and the scanning loop.
-- Assumes nothing.
use mathlib.Core.Path.{◌≡◌, refl, sym, ◌∙◌, subst}
use mathlib.Core.Bool.{Bool, true, false}
use mathlib.Core.List.{List}
use mathlib.Core.Logic.{◌⊎◌, inl, inr}
use Prim.Native.Nat.{ℕ, suc, ◌+◌, ◌*◌, ◌-◌, ◌≤◌, ◌<◌}
use native.Mathlib.Decide.{dec_lt}
use native.Mathlib.Omega.{arith}
use lib.Dec.{eqb}
use lib.ListN.{length, get_or, get_or-eq_default}
use Rattle.base_prelude.specs.Choice.{pick, if_eq}
use Rattle.base_prelude.specs.Walk.{go, stop}
use Rattle.base_prelude.proofs.Choice.{tests, either, if_lt-yes, if_lt-no}
use Rattle.base_prelude.proofs.Walk.{Runs, runs-start, runs-go, runs-stop, Kept, walk_kept}
use Rattle.parse_lines.specs.Tokens.{token_word, kind_at, place_at, skip_step, skip, all_from}

pub word-past : (t : List ℕ) (i f : ℕ) → length t ≤ i * 8 + f → 0 ≡ token_word t i f
unfolding token_word
word-past t i f h = sym (get_or-eq_default t 0 h)

pub word-here : (t : List ℕ) (i f : ℕ) → get_or t (i * 8 + f) 0 ≡ token_word t i f
unfolding token_word
word-here t i f = refl

pub ruleset reading = (word-past, word-here)

-- a token of a kind stands within the table
pub token-within : (t : List ℕ) (i f : ℕ) → 1 ≤ token_word t i f → i * 8 + f < length t
unfolding token_word
token-within t i f h =
    elim (dec_lt (i * 8 + f) (length t)) [
      | yes l ↦ l
      | no l ↦ let z : ⊥ = omega (arith, get_or-eq_default t 0 {n = i * 8 + f} (omega arith)) in absurd z
    ]

module _ (t : List ℕ) (n i : ℕ) where
  pub place_end : (k : ℕ) → k ≡ token_word t i 0 → k ≡ 0 → n ≡ place_at t n i
  unfolding place_at
  place_end k p e = rw (← p) (search tests)

  pub place-token : (k r : ℕ) → k ≡ token_word t i 0 → (k ≡ 0 → ⊥) → r ≡ token_word t i 1 → r ≡ place_at t n i
  unfolding place_at
  place-token k r p e q = rw (← p, ← q) (search tests)

pub ruleset placing = (place_end, place-token)

module _ (t : List ℕ) (lo hi i : ℕ) where
  skip-low : kind_at t i < lo → skip_step t lo hi i ≡ stop i
  unfolding skip_step
  skip-low h = if_lt-yes _ _ h

  skip-go : lo ≤ kind_at t i → kind_at t i < hi → skip_step t lo hi i ≡ go (i + 1)
  unfolding skip_step
  skip-go h g = if_lt-no _ _ h ∙ if_lt-yes _ _ g

  skip-high : lo ≤ kind_at t i → hi ≤ kind_at t i → skip_step t lo hi i ≡ stop i
  unfolding skip_step
  skip-high h g = if_lt-no _ _ h ∙ if_lt-no _ _ g

-- the loop of `skip_kinds`
pub record Skips (t : List ℕ) (lo hi from i : ℕ) : Type 0 where
  pub runs : Runs (skip_step t lo hi) from (skip t lo hi from) i (suc (length t - i * 8))

module _ (t : List ℕ) (lo hi from : ℕ) where
  pub skips-start : Skips t lo hi from from
  unfolding skip
  skips-start = record { runs = runs-start _ _ _ _ _ (omega arith) }

  module _ (i k : ℕ) where
    pub skips-low : Skips t lo hi from i → k ≡ token_word t i 0 → k < lo → i ≡ skip t lo hi from
    skips-low h p g = runs-stop _ _ _ _ _ _ h.runs (skip-low t lo hi i (subst (λ (x : ℕ). x < lo) p g))

    pub skips-high : Skips t lo hi from i → k ≡ token_word t i 0 → lo ≤ k → hi ≤ k → i ≡ skip t lo hi from
    skips-high h p g f = runs-stop _ _ _ _ _ _ h.runs (skip-high t lo hi i (subst (λ (x : ℕ). lo ≤ x) p g) (subst (λ (x : ℕ). hi ≤ x) p f))

    pub skips-out : Skips t lo hi from i → k ≡ token_word t i 0 → (k < lo) ⊎ ((lo ≤ k) × (hi ≤ k)) → i ≡ skip t lo hi from
    skips-out h p e = elim e [ inl g ↦ skips-low h p g | inr g ↦ skips-high h p g.0 g.1 ]

    here : k ≡ token_word t i 0 → 1 ≤ lo → lo ≤ k → i * 8 < length t
    here p l g = let w : i * 8 + 0 < length t = token-within t i 0 (omega arith) in omega arith

    pub skips-fits : length t ≡ 32768 → 1 ≤ lo → k ≡ token_word t i 0 → lo ≤ k → i + 1 < 4294967296
    skips-fits e l p g = omega (arith, here p l g)

    pub skips-less : 1 ≤ lo → k ≡ token_word t i 0 → lo ≤ k → length t - (i + 1) * 8 < length t - i * 8
    skips-less l p g = omega (arith, here p l g)

    pub skips-more : Skips t lo hi from i → 1 ≤ lo → k ≡ token_word t i 0 → lo ≤ k → k < hi → Skips t lo hi from (i + 1)
    skips-more h l p g f =
        record {
          runs = runs-go _ _ _ _ _ (length t - i * 8) _ h.runs (skip-go t lo hi i (subst (λ (x : ℕ). lo ≤ x) p g) (subst (λ (x : ℕ). x < hi) p f)) (omega (arith, here p l g));
        }

pub ruleset skipping = (skips-start, skips-low, skips-high, skips-more)

pub all-is : (t : List ℕ) (lo hi i next j : ℕ) → j ≡ skip t lo hi i → eqb j next ≡ all_from t lo hi i next
unfolding all_from if_eq
all-is t lo hi i next j p = rw (← p) (same (eqb j next))
  where
    same : (b : Bool) → b ≡ pick b true false
    same true = refl
    same false = refl

-- a scan goes no way back, and not behind the table
module _ (t : List ℕ) (lo hi from : ℕ) where
  step_from : (i : ℕ) → from ≤ i → Kept (λ (j : ℕ). from ≤ j) (λ (j : ℕ). from ≤ j) (skip_step t lo hi i)
  unfolding skip_step
  step_from i h =
      either (Kept (λ (j : ℕ). from ≤ j) (λ (j : ℕ). from ≤ j)) (kind_at t i) lo _ _ (λ _. h) (λ _.
      either (Kept (λ (j : ℕ). from ≤ j) (λ (j : ℕ). from ≤ j)) (kind_at t i) hi _ _ (λ _. omega arith) (λ _. h))

  pub skip-from : from ≤ skip t lo hi from
  unfolding skip
  skip-from = walk_kept (λ (j : ℕ). from ≤ j) (λ (j : ℕ). from ≤ j) (skip_step t lo hi) from (omega arith) step_from (suc (length t)) from (omega arith)

module _ (t : List ℕ) (lo hi b : ℕ) (l : 1 ≤ lo) (e : length t ≤ b * 8) where
  step-top : (i : ℕ) → i ≤ b → Kept (λ (j : ℕ). j ≤ b) (λ (j : ℕ). j ≤ b) (skip_step t lo hi i)
  unfolding skip_step
  step-top i h =
      either (Kept (λ (j : ℕ). j ≤ b) (λ (j : ℕ). j ≤ b)) (kind_at t i) lo _ _ (λ _. h) (λ g.
      either (Kept (λ (j : ℕ). j ≤ b) (λ (j : ℕ). j ≤ b)) (kind_at t i) hi _ _
      (λ _. let w : i * 8 + 0 < length t = token-within t i 0 (omega arith) in omega arith) (λ _. h))

  pub skip-top : (from : ℕ) → from ≤ b → skip t lo hi from ≤ b
  unfolding skip
  skip-top from h = walk_kept (λ (j : ℕ). j ≤ b) (λ (j : ℕ). j ≤ b) (skip_step t lo hi) from h step-top (suc (length t)) from h
