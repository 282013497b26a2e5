-- An accepted source has at most 1,024 statements and 256 labels.
-- Assumes nothing.
use mathlib.Core.Path.{◌≡◌, refl, sym, ◌∙◌, ap, subst}
use mathlib.Core.List.{List, [], ◌∷◌}
use Prim.Native.Nat.{ℕ, zero, suc, ◌+◌, ◌-◌, ◌≤◌, ◌<◌, min}
use native.Mathlib.Omega.{arith}
use lib.ListN.{length, length-replicate}
use Rattle.base_prelude.specs.Choice.{if_lt, if_eq}
use Rattle.base_prelude.specs.Fault.{none, least_of}
use Rattle.base_prelude.specs.Lists.{zeros}
use Rattle.base_prelude.specs.Walk.{Step, go, stop, walk}
use Rattle.base_prelude.proofs.Choice.{either, either-eq}
use Rattle.base_prelude.proofs.Walk.{Kept, walk_kept}
use Rattle.base_limits.specs.declared.Width.{Width}
use Rattle.parse_lines.specs.Tokens.{kind_at}
use Rattle.parse_lines.specs.Units.{unit_at}
use Rattle.parse_lines.specs.Lines.{line_kind}
use Rattle.parse_lines.specs.declared.Span.{Span}
use Rattle.parse_lines.proofs.Keys.{key-low}
use Rattle.parse_rules.specs.Rules.{label_limit, label_key, labelled, label_step, labels_from, labels_rule}
use Rattle.parse_rules.specs.declared.Labelled.{Labelled}
use Rattle.parse_units.specs.Places.{ground_in, import_labels, import_rule, line_faults, unit_fault}
use Rattle.parse_units.specs.Parse.{World, world, Result, parse_result, begin, state_behind, join_state, advance, open_row, fault_in, unit_step_on, unit_step, parse_from, parse_of}
use Rattle.parse_units.specs.Fits.{UnitStepFits}
use Rattle.parse_units.specs.declared.State.{State}
use Rattle.std.proofs.Common.{Ok, Err}
use Rattle.parse_units.specs.Verdict.{Verdict, refused}
use Rattle.parse_units.proofs.Bounds.{import-few, import-clean, unit-clean}
use Rattle.parse_units.proofs.UnitSteps.{UnitStepGood, unit-step-good}
use Rattle.parse_outline.specs.Outline.{answer_of, outline_of}
use Rattle.parse_outline.specs.Parsed.{Parsed}
use Rattle.parse_outline.specs.Parsed as answer

-- labels of a unit without a fault
limit-clean : (t : List ℕ) (n i c : ℕ) → none ≤ label_limit t n i c → c < 256
unfolding label_limit
limit-clean t n i c =
    either (λ (x : ℕ). none ≤ x → c < 256) c 256 _ _ (λ h _. h) (λ _ h. let z : ⊥ = omega (arith, key-low t n i 14 (omega arith)) in absurd z)

step-low : (t : List ℕ) (n i : ℕ) (x : Labelled) → (label_step t n i x).fault ≤ x.fault
unfolding label_step
step-low t n i x = either-eq (λ (y : Labelled). y.fault ≤ x.fault) _ 2 _ _ (λ _. omega arith) (λ _. omega arith)

pub from_low : (left : ℕ) (t : List ℕ) (n i : ℕ) (x : Labelled) → (labels_from left t n i x).fault ≤ x.fault
unfolding labels_from
from_low zero t n i x = omega arith
from_low (suc left) t n i x = omega (arith, from_low left t n (i + 1) (label_step t n i x), step-low t n i x)

key-clean : (t : List ℕ) (n i c f : ℕ) → none ≤ min f (label_key t n i c) → c < 256
unfolding label_key
key-clean t n i c f h = limit-clean t n i c (omega arith)

step-few : (t : List ℕ) (n i : ℕ) (x : Labelled) → x.count ≤ 256 → none ≤ (label_step t n i x).fault → (label_step t n i x).count ≤ 256
unfolding label_step
step-few t n i x h =
    either-eq (λ (y : Labelled). none ≤ y.fault → y.count ≤ 256) (kind_at t i) 2 _ _
    (λ _ g. omega (arith, key-clean t n i x.count x.fault g)) (λ _ _. h)

from-few : (left : ℕ) (t : List ℕ) (n i : ℕ) (x : Labelled) → x.count ≤ 256 → none ≤ (labels_from left t n i x).fault → (labels_from left t n i x).count ≤ 256
unfolding labels_from
from-few zero t n i x h g = h
from-few (suc left) t n i x h g =
    let b : none ≤ (label_step t n i x).fault = omega (arith, from_low left t n (i + 1) (label_step t n i x)) in
    from-few left t n (i + 1) (label_step t n i x) (step-few t n i x h b) g

unit-few : (t : List ℕ) (n : ℕ) (u : Span) (c : ℕ) → c ≤ 256 → none ≤ (labels_rule t n u c).fault → (labels_rule t n u c).count ≤ 256
unfolding labels_rule
unit-few t n u c h g = from-few (u.word - u.first) t n u.first (labelled none c) h g

lines-clean : (w : Width) (t : List ℕ) (n : ℕ) (u : Span) (k g : ℕ) (s : State) → none ≤ unit_fault w t n u k g s → none ≤ least_of (line_faults w t n u k g s)
unfolding unit_fault
lines-clean w t n u k g s c = omega arith

labels-clean : (w : Width) (t : List ℕ) (n : ℕ) (u : Span) (k g : ℕ) (s : State) → none ≤ unit_fault w t n u k g s → none ≤ (labels_rule t n u s.labels).fault
unfolding line_faults least_of
labels-clean w t n u k g s c = omega (arith, lines-clean w t n u k g s c)

-- an import without a fault
import-room : (t : List ℕ) (n : ℕ) (u : Span) (k c : ℕ) → c ≤ 256 → none ≤ import_rule t n u k c → c + import_labels t u k ≤ 256
unfolding import_rule
import-room t n u k c h =
    either-eq (λ (x : ℕ). none ≤ x → c + import_labels t u k ≤ 256) (import_labels t u k) 0 _ _ (λ e _. omega arith)
    (λ _ g. omega (arith, import-few t u k, limit-clean t n (u.word + 1) c g))

-- between two units
abbrev Counted : List ℕ → World → Type 0
Counted t x = UnitStepFits t x.table x.state × (x.state.labels ≤ x.state.at) × (x.state.labels ≤ 256)

-- an answer
abbrev Few : Verdict → Type 0
Few (Ok x) = (x.count ≤ 1025) × (x.labels ≤ 256)
Few (Err k) = Unit {0}

abbrev FewLabels : Step World Result → Type 0
FewLabels (go x) = x.state.labels ≤ 256
FewLabels (stop r) = Few r.verdict

module _ (w : Width) (t : List ℕ) (n : ℕ) (x : World) (h : Counted t x) where
  behind-few : none ≤ fault_in w t n (unit_at t x.state.at) x
      → (advance t n (unit_at t x.state.at) (line_kind t (unit_at t x.state.at).word) x).state.labels ≤ 256
  unfolding advance join_state state_behind
  behind-few c =
      let u : Span = unit_at t x.state.at in
      let k : ℕ = line_kind t u.word in
      let c' : none ≤ unit_fault w t n u k (ground_in x.state (open_row x)) x.state = unit-clean w t n u x c in
      import-room t n u k (labels_rule t n u x.state.labels).count
      (unit-few t n u x.state.labels h.2 (labels-clean w t n u k (ground_in x.state (open_row x)) x.state c'))
      (import-clean w t n u k (ground_in x.state (open_row x)) x.state c')

  unit-step-few : FewLabels (unit_step w t n x)
  unfolding unit_step unit_step_on
  unit-step-few =
      either FewLabels (fault_in w t n (unit_at t x.state.at) x) none _ _ (λ _. tt) (λ c.
      either-eq FewLabels (line_kind t (unit_at t x.state.at).word) 0 _ _ (λ _. (h.0.free, h.2)) (λ _. behind-few c))

  unit-step-counted : Kept (Counted t) (λ (r : Result). Few r.verdict) (unit_step w t n x)
  unit-step-counted = by (unit_step w t n x) (unit-step-good w t n x.state x.table h.0 h.1) unit-step-few
    where
      by : (s : Step World Result) → UnitStepGood t x.state s → FewLabels s → Kept (Counted t) (λ (r : Result). Few r.verdict) s
      by (go y) g f = (g.0.0, g.0.1, f)
      by (stop r) g f = f

begin-counted : (t : List ℕ) → length t ≡ 32768 → Counted t (world begin (zeros 8200))
begin-counted t e = (
  record { tokens = e; long = length-replicate {A = ℕ} 8200 0; near = omega arith; few = omega arith; free = omega arith },
  omega arith,
  omega arith,
)

parse-few : (w : Width) (t : List ℕ) (n : ℕ) → length t ≡ 32768 → Few (parse_of w t n).verdict
unfolding parse_of parse_from
parse-few w t n e =
    walk_kept (Counted t) (λ (r : Result). Few r.verdict) (unit_step w t n) (parse_result (refused none) []) tt (unit-step-counted w t n)
    (suc (length t)) (world begin (zeros 8200)) (begin-counted t e)

abbrev FewAnswer : Parsed → Type 0
FewAnswer (Ok x) = (x.statements ≤ 1024) × (x.labels ≤ 256)
FewAnswer (Err r) = Unit {0}

answer-few : (v : Verdict) → Few v → FewAnswer (answer_of v)
unfolding answer_of
answer-few (Ok x) h = (omega (arith, h.0), h.1)
answer-few (Err k) h = tt

outline-few : (w : Width) (t : List ℕ) (n : ℕ) → length t ≡ 32768 → FewAnswer (outline_of w t n).answer
unfolding outline_of
outline-few w t n e = answer-few (parse_of w t n).verdict (parse-few w t n e)

-- statements and labels of an accepted source are within the limits
pub accepted-counts : (w : Width) (t : List ℕ) (n c l : ℕ) → length t ≡ 32768 → (outline_of w t n).answer ≡ answer.accepted c l → (c ≤ 1024) × (l ≤ 256)
accepted-counts w t n c l e h = subst FewAnswer h (outline-few w t n e)
