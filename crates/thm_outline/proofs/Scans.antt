-- Where a unit's scans stop: a unit whose first token is no label has no labels.
-- Assumes nothing.
use mathlib.Core.Path.{◌≡◌}
use mathlib.Core.List.{List}
use Prim.Native.Nat.{ℕ, ◌≤◌}
use native.Mathlib.Decide.{ℕ_discrete}
use native.Mathlib.Omega.{arith}
use Rattle.parse_lines.specs.Tokens.{kind_at, skip}
use Rattle.parse_lines.specs.Units.{span_from, span_of, unit_at}
use Rattle.parse_lines.specs.declared.Span.{Span}
use Rattle.parse_verdict.proofs.Scans.{skip-out, skip-here}

-- a unit without a label begins at its magic word
pub unit-plain : (t : List ℕ) (at : ℕ) → (kind_at t (unit_at t at).first ≡ 2 → ⊥) → (unit_at t at).word ≡ (unit_at t at).first
unfolding unit_at span_of span_from
unit-plain t at h =
    let o : 1 ≤ kind_at t (skip t 1 2 at) → 2 ≤ kind_at t (skip t 1 2 at) = skip-out t 1 2 (omega arith) at in
    skip-here t 1 3 (omega arith) (skip t 1 2 at) (λ a. let b : 2 ≤ kind_at t (skip t 1 2 at) = o a in
    elim (ℕ_discrete (kind_at t (skip t 1 2 at)) 2) [ yes e ↦ absurd (h e) | no e ↦ omega arith ])
