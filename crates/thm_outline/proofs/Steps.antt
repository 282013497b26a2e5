-- The three ways that a step of the parser goes: a fault, the source's end, or on behind the line.
-- Assumes nothing.
use mathlib.Core.Path.{◌≡◌, ◌∙◌}
use mathlib.Core.List.{List}
use Prim.Native.Nat.{ℕ, ◌≤◌, ◌<◌}
use Rattle.base_prelude.specs.Fault.{none}
use Rattle.base_prelude.specs.Walk.{Step, go, stop}
use Rattle.base_prelude.proofs.Choice.{if_lt-yes, if_lt-no, if_eq-yes, if_eq-no}
use Rattle.base_limits.specs.declared.Width.{Width}
use Rattle.parse_lines.specs.Units.{unit_at}
use Rattle.parse_lines.specs.Lines.{line_kind}
use Rattle.parse_lines.specs.declared.Span.{Span}
use Rattle.parse_units.specs.Parse.{World, Result, parse_result, advance, fault_in, unit_step_on, unit_step}
use Rattle.parse_units.specs.Verdict.{accepted, refused}

module _ (w : Width) (t : List ℕ) (n : ℕ) (x : World) where
  abbrev u : Span
  u = unit_at t x.state.at

  abbrev k : ℕ
  k = line_kind t (unit_at t x.state.at).word

  pub refused-step : fault_in w t n u x < none → unit_step w t n x ≡ stop (parse_result (refused (fault_in w t n u x)) x.table)
  unfolding unit_step unit_step_on
  refused-step l = if_lt-yes _ _ l

  pub end_step : none ≤ fault_in w t n u x → k ≡ 0 → unit_step w t n x ≡ stop (parse_result (accepted x.state.count x.state.labels) x.table)
  unfolding unit_step unit_step_on
  end_step c e = if_lt-no _ _ c ∙ if_eq-yes _ _ e

  pub go_step : none ≤ fault_in w t n u x → (k ≡ 0 → ⊥) → unit_step w t n x ≡ go (advance t n u k x)
  unfolding unit_step unit_step_on
  go_step c d = if_lt-no _ _ c ∙ if_eq-no _ _ d
