-- Where scans of tokens end.
-- Assumes nothing.
use mathlib.Core.Path.{◌≡◌, refl, sym, ◌∙◌, ap, subst}
use mathlib.Core.List.{List}
use Prim.Native.Nat.{ℕ, suc, ◌+◌, ◌*◌, ◌-◌, ◌≤◌, ◌<◌}
use native.Mathlib.Decide.{dec_lt, ℕ_discrete}
use native.Mathlib.Omega.{arith}
use lib.ListN.{length}
use Rattle.base_prelude.specs.Choice.{if_lt}
use Rattle.base_prelude.specs.Walk.{go, stop, walk}
use Rattle.base_prelude.proofs.Choice.{either, if_lt-yes, if_lt-no}
use Rattle.base_prelude.proofs.Walk.{walk-stop, Ends, walk_ends}
use Rattle.parse_lines.specs.Tokens.{kind_at, skip_step, skip}
use Rattle.parse_lines.specs.Units.{span_from, span_of, unit_at}
use Rattle.parse_lines.proofs.Scans.{token-within, skip-from}

module _ (t : List ℕ) (lo hi : ℕ) (l : 1 ≤ lo) where
  abbrev Out : ℕ → Type 0
  Out j = lo ≤ kind_at t j → hi ≤ kind_at t j

  abbrev left : ℕ → ℕ
  left i = length t - i * 8

  step-out : (i : ℕ) → Unit {0} → Ends (λ (j : ℕ). Unit {0}) Out left i (skip_step t lo hi i)
  unfolding skip_step
  step-out i _ =
      either (Ends (λ (j : ℕ). Unit {0}) Out left i) (kind_at t i) lo _ _ (λ h g. let z : ⊥ = omega arith in absurd z) (λ g.
      either (Ends (λ (j : ℕ). Unit {0}) Out left i) (kind_at t i) hi _ _
      (λ _. let w : i * 8 + 0 < length t = token-within t i 0 (omega arith) in (tt, omega arith)) (λ h _. h))

  -- a scan stops at a token that is not of its kinds
  pub skip-out : (from : ℕ) → Out (skip t lo hi from)
  unfolding skip
  skip-out from = walk_ends (λ (j : ℕ). Unit {0}) Out left (skip_step t lo hi) from step-out (suc (length t)) from (omega arith) tt

  -- and stays where it begins at such a one
  pub skip-here : (from : ℕ) → Out from → skip t lo hi from ≡ from
  unfolding skip skip_step
  skip-here from h =
      elim (dec_lt (kind_at t from) lo) [
        | yes a ↦ walk-stop _ _ _ _ _ (if_lt-yes _ _ a)
        | no a ↦ let b : lo ≤ kind_at t from = omega arith in walk-stop _ _ _ _ _ (if_lt-no _ _ b ∙ if_lt-no _ _ (h b))
      ]

-- a symbol behind the magic word stands in the line
pub name-inside : (t : List ℕ) (at : ℕ) → kind_at t ((unit_at t at).word + 1) ≡ 3 → (unit_at t at).word + 1 < (unit_at t at).next
unfolding unit_at span_of span_from
name-inside t at e = by (skip t 1 3 (skip t 1 2 at) + 1) e
  where
    by : (i : ℕ) → kind_at t i ≡ 3 → i < skip t 2 16 i
    by i e =
        elim (ℕ_discrete (skip t 2 16 i) i) [
          | yes q ↦ let z : 16 ≤ kind_at t (skip t 2 16 i) = skip-out t 2 16 (omega arith) i (omega (arith, ap (kind_at t) q)) in
              let y : ⊥ = omega (arith, ap (kind_at t) q) in absurd y
          | no d ↦ omega (arith, skip-from t 2 16 i)
        ]
