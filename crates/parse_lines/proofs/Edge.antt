-- Where no token is, the line is the edge.
-- Assumes nothing.
use mathlib.Core.Path.{◌≡◌, ◌∙◌}
use mathlib.Core.List.{List}
use Prim.Native.Nat.{ℕ}
use native.Mathlib.Omega.{arith}
use Rattle.base_prelude.proofs.Choice.{if_eq-yes, if_eq-no}
use Rattle.parse_lines.specs.Tokens.{kind_at}
use Rattle.parse_lines.specs.Lines.{other_kind, line_kind}

pub edge-is : (t : List ℕ) (i : ℕ) → kind_at t i ≡ 0 → line_kind t i ≡ 0
unfolding line_kind other_kind
edge-is t i e = if_eq-no _ _ (λ z. let y : ⊥ = omega arith in y) ∙ if_eq-yes _ _ e
