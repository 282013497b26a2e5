-- The answer.
-- Assumes nothing.
use mathlib.Core.Path.{◌≡◌, refl, sym, ◌∙◌, ap, ap₂}
use mathlib.Core.List.{List}
use Prim.Native.Nat.{ℕ, ◌-◌, ◌%◌, ◌/◌}
use Rattle.std.proofs.Common.{Ok, Err}
use Rattle.base_limits.specs.declared.Width.{Width}
use Rattle.base_limits.specs.declared.Refusal.{Refusal}
use Rattle.parse_units.specs.Parse.{Result, parse_result, parse_of}
use Rattle.parse_units.specs.Verdict.{Verdict}
use Rattle.parse_units.specs.declared.Totals.{Totals}
use Rattle.parse_outline.specs.Labels.{label_rows}
use Rattle.parse_outline.specs.Outline.{answer_of, parsed, outline_of}
use Rattle.parse_outline.specs.Parsed.{Parsed, accepted, refusal_of}

module _ (v : Verdict) where
  pub answer-accepted : (x : Totals) (m : ℕ) → v ≡ Ok x → m ≡ x.count - 1 → accepted m x.labels ≡ answer_of v
  unfolding answer_of
  answer-accepted x m e q = rw (e, q)

  pub answer-refused : (k : ℕ) (r : Refusal) → v ≡ Err k → r ≡ refusal_of k → Err r ≡ answer_of v
  unfolding answer_of
  answer-refused k r e q = rw (e, q)

pub ruleset answering = (answer-accepted, answer-refused)

pub outline-is : (w : Width) (t : List ℕ) (n : ℕ) (v : Verdict) (a : Parsed) (rows labels : List ℕ) → parse_result v rows ≡ parse_of w t n → labels ≡ label_rows t → a ≡ answer_of v
    → parsed a rows labels ≡ outline_of w t n
unfolding outline_of
outline-is w t n v a rows labels p q e =
    ap (λ (x : Parsed). parsed x rows labels) (e ∙ ap (λ (x : Result). answer_of x.verdict) p)
    ∙ ap₂ (λ (x y : List ℕ). parsed (answer_of (parse_of w t n).verdict) x y) (ap (λ (x : Result). x.outline) p) q
