-- Units go forward and stay within the table; rules that find nothing keep the sums small.
-- Assumes nothing.
use mathlib.Core.Path.{◌≡◌, refl, sym, ◌∙◌, ap, subst}
use mathlib.Core.Bool.{Bool, true, false}
use mathlib.Core.List.{List, [], ◌∷◌}
use mathlib.Core.Logic.{◌⊎◌, inl, inr, ⊎_elim}
use Prim.Native.Nat.{ℕ, zero, suc, ◌+◌, ◌*◌, ◌-◌, ◌≤◌, ◌<◌, min}
use native.Mathlib.Nat.{min-le_left, min-le_right, le_trans}
use native.Mathlib.Decide.{ℕ_discrete}
use native.Mathlib.Omega.{arith}
use lib.ListN.{length}
use Rattle.base_prelude.specs.Choice.{if_lt, if_eq, if_true}
use Rattle.base_prelude.specs.Fault.{none, least_of, key}
use Rattle.base_prelude.proofs.Choice.{either, either-eq, either_true, if_eq-yes, if_eq-no}
use Rattle.base_limits.specs.declared.Width.{Width}
use Rattle.lang_kinds.specs.Nesting.{rows_of}
use Rattle.parse_lines.specs.Tokens.{token_word, kind_at, skip}
use Rattle.parse_lines.specs.Units.{span_from, span_of, unit_at}
use Rattle.parse_lines.specs.Lines.{line_kind}
use Rattle.parse_lines.specs.declared.Span.{Span}
use Rattle.parse_lines.proofs.Scans.{token-within, skip-from, skip-top}
use Rattle.parse_lines.proofs.Keys.{key-low, no_key}
use Rattle.parse_lines.proofs.Edge.{edge-is}
use Rattle.parse_rules.specs.Rules.{shape_rule, left_rule, tokens_rule, list_rule, labels_rule, labels_from, label_step, labelled}
use Rattle.parse_rules.specs.declared.Labelled.{Labelled}
use Rattle.parse_units.specs.Places.{ground_in, line_on, label_rule, place_rule, import_labels, import_rule, room_rule, locals_rule, depth_rule, line_faults, limit_faults, unit_fault}
use Rattle.parse_units.specs.Parse.{World, open_row, fault_in}
use Rattle.parse_units.specs.declared.State.{State}

module _ (t : List ℕ) (at : ℕ) where
  -- a unit lies one behind the other
  pub unit-order : (at ≤ (unit_at t at).first) × ((unit_at t at).first ≤ (unit_at t at).word) × ((unit_at t at).word < (unit_at t at).next)
  unfolding unit_at span_of span_from
  unit-order =
      (skip-from t 1 2 at, skip-from t 1 3 (skip t 1 2 at), omega (arith, skip-from t 2 16 (skip t 1 3 (skip t 1 2 at) + 1)))

  pub unit-near : length t ≡ 32768 → at ≤ 4097 → (unit_at t at).word ≤ 4097
  unfolding unit_at span_of span_from
  unit-near e h =
      skip-top t 1 3 4097 (omega arith) (omega arith) (skip t 1 2 at) (skip-top t 1 2 4097 (omega arith) (omega arith) at h)

  pub unit-next : length t ≡ 32768 → (unit_at t at).word < 4097 → (unit_at t at).next ≤ 4097
  unfolding unit_at span_of span_from
  unit-next e h = skip-top t 2 16 4097 (omega arith) (omega arith) (skip t 1 3 (skip t 1 2 at) + 1) (omega arith)

-- a line that is not the edge has a token
pub line-some : (t : List ℕ) (i : ℕ) → length t ≡ 32768 → (line_kind t i ≡ 0 → ⊥) → i < 4096
line-some t i e h =
    elim (ℕ_discrete (kind_at t i) 0) [
      | yes z ↦ absurd (h (edge-is t i z))
      | no z ↦ let w : i * 8 + 0 < length t = token-within t i 0 (omega arith) in omega arith
    ]

-- labels are tokens
step_count : (t : List ℕ) (n i : ℕ) (x : Labelled) → (label_step t n i x).count ≤ x.count + 1
unfolding label_step
step_count t n i x = either-eq (λ (y : Labelled). y.count ≤ x.count + 1) _ 2 _ _ (λ _. omega arith) (λ _. omega arith)

from-count : (left : ℕ) (t : List ℕ) (n i : ℕ) (x : Labelled) → (labels_from left t n i x).count ≤ x.count + left
unfolding labels_from
from-count zero t n i x = omega arith
from-count (suc left) t n i x = omega (arith, from-count left t n (i + 1) (label_step t n i x), step_count t n i x)

pub labels-count : (t : List ℕ) (n : ℕ) (u : Span) (c : ℕ) → (labels_rule t n u c).count ≤ c + (u.word - u.first)
unfolding labels_rule
labels-count t n u c = from-count (u.word - u.first) t n u.first (labelled none c)

-- a line itself is at most one label
pub import-few : (t : List ℕ) (u : Span) (k : ℕ) → import_labels t u k ≤ 1
unfolding import_labels
import-few t u k =
    either-eq (λ (x : ℕ). x ≤ 1) k 36 _ _
    (λ _. either_true (λ (x : ℕ). x ≤ 1) _ _ _ (λ _. either-eq (λ (x : ℕ). x ≤ 1) _ 0 _ _ (λ _. omega arith) (λ _. omega arith)) (λ _. omega arith)) (λ _. omega arith)

pub labels-add : (t : List ℕ) (n : ℕ) (u : Span) (k c j : ℕ) (x : Labelled) → u.word ≤ 4097 → c ≤ 4097 → x ≡ labels_rule t n u c → j ≡ import_labels t u k
    → x.count + j < 4294967296
labels-add t n u k c j x h g p q =
    omega (arith, ap (λ (y : Labelled). y.count) p, labels-count t n u c, import-few t u k)

-- what no fault says
room_by : (t : List ℕ) (n : ℕ) (u : Span) (k count : ℕ) → none ≤ room_rule t n u k count → rows_of k ≤ 1025 - count
unfolding room_rule
room_by t n u k count =
    either (λ (x : ℕ). none ≤ x → rows_of k ≤ 1025 - count) (1025 - count) (rows_of k) _ _
    (λ _ h. let z : ⊥ = omega (arith, key-low t n u.word 14 (omega arith)) in absurd z) (λ h _. h)

lets_by : (t : List ℕ) (n : ℕ) (u : Span) (k locals : ℕ) → k ≡ 5 → none ≤ locals_rule t n u k locals → locals < 64
unfolding locals_rule
lets_by t n u k locals e =
    either-eq (λ (x : ℕ). none ≤ x → locals < 64) k 5 _ _
    (λ _. either (λ (x : ℕ). none ≤ x → locals < 64) locals 64 _ _ (λ h _. h) (λ _ h. let z : ⊥ = omega (arith, key-low t n u.word 14 (omega arith)) in absurd z))
    (λ f _. absurd (f e))

deep-by : (t : List ℕ) (n : ℕ) (u : Span) (k depth : ℕ) → k ≡ 3 → none ≤ depth_rule t n u k depth → depth < 16
unfolding depth_rule
deep-by t n u k depth e =
    either-eq (λ (x : ℕ). none ≤ x → depth < 16) k 3 _ _
    (λ _. either (λ (x : ℕ). none ≤ x → depth < 16) depth 16 _ _ (λ h _. h) (λ _ h. let z : ⊥ = omega (arith, key-low t n u.word 14 (omega arith)) in absurd z))
    (λ f _. absurd (f e))

module _ (w : Width) (t : List ℕ) (n : ℕ) (u : Span) (k g : ℕ) (s : State) (c : none ≤ unit_fault w t n u k g s) where
  limits-clean : none ≤ least_of (limit_faults t n u k s)
  unfolding unit_fault
  limits-clean = omega arith

  room-clean : none ≤ room_rule t n u k s.count
  unfolding limit_faults least_of
  room-clean = omega (arith, limits-clean)

  locals-clean : none ≤ locals_rule t n u k s.locals
  unfolding limit_faults least_of
  locals-clean = omega (arith, limits-clean)

  depth-clean : none ≤ depth_rule t n u k s.depth
  unfolding limit_faults least_of
  depth-clean = omega (arith, limits-clean)

  pub clean-room : rows_of k ≤ 1025 - s.count
  clean-room = room_by t n u k s.count room-clean

  pub clean-lets : k ≡ 5 → s.locals < 64
  clean-lets e = lets_by t n u k s.locals e locals-clean

  pub clean-deep : k ≡ 3 → s.depth < 16
  clean-deep e = deep-by t n u k s.depth e depth-clean

-- ---- imports

pub line_on_lem : (g k : ℕ) → (line_on g k ≡ k) ⊎ ((k ≡ 36) × (line_on g k ≡ 34))
unfolding line_on
line_on_lem g k =
    either-eq (λ (x : ℕ). (x ≡ k) ⊎ ((k ≡ 36) × (x ≡ 34))) k 36 _ _
    (λ e. either-eq (λ (x : ℕ). (x ≡ k) ⊎ ((k ≡ 36) × (x ≡ 34))) g 1 _ _ (λ _. inl refl) (λ _. inr (e, refl))) (λ _. inl refl)

left_by : (t : List ℕ) (n : ℕ) (u : Span) (k : ℕ) → none ≤ left_rule t n u k → k ≡ 34 → ⊥
unfolding left_rule
left_by t n u k =
    either-eq (λ (x : ℕ). none ≤ x → k ≡ 34 → ⊥) k 34 _ _ (λ _ h _. no_key t n u.word 9 (omega arith) h) (λ d _ e. d e)

module _ (w : Width) (t : List ℕ) (n : ℕ) (u : Span) (k g : ℕ) (s : State) (c : none ≤ unit_fault w t n u k g s) where
  lines-clean : none ≤ least_of (line_faults w t n u k g s)
  unfolding unit_fault
  lines-clean = omega arith

  pub import-clean : none ≤ import_rule t n u k (labels_rule t n u s.labels).count
  unfolding line_faults least_of
  import-clean = omega (arith, lines-clean)

  left-clean : none ≤ left_rule t n u k
  unfolding line_faults least_of
  left-clean = omega (arith, lines-clean)

module _ (w : Width) (t : List ℕ) (n : ℕ) (u : Span) (k g : ℕ) (s : State) where
  -- a line without a fault has the kind of its words
  pub clean_line : none ≤ unit_fault w t n u (line_on g k) g s → line_on g k ≡ k
  clean_line c = ⊎_elim (λ e. e) (λ p. absurd (left_by t n u (line_on g k) (left-clean w t n u (line_on g k) g s c) p.1)) (line_on_lem g k)

-- the rules find nothing in a unit
pub unit-clean : (w : Width) (t : List ℕ) (n : ℕ) (u : Span) (x : World) → none ≤ fault_in w t n u x
    → none ≤ unit_fault w t n u (line_kind t u.word) (ground_in x.state (open_row x)) x.state
unfolding fault_in
unit-clean w t n u x c =
    subst (λ (k : ℕ). none ≤ unit_fault w t n u k (ground_in x.state (open_row x)) x.state)
    (clean_line w t n u (line_kind t u.word) (ground_in x.state (open_row x)) x.state c) c

line-one : (g k : ℕ) → k ≡ 36 → line_on g k ≡ k → g ≡ 1
unfolding line_on
line-one g k e =
    either-eq (λ (x : ℕ). x ≡ k → g ≡ 1) k 36 _ _
    (λ _. either-eq (λ (x : ℕ). x ≡ k → g ≡ 1) g 1 _ _ (λ h _. h) (λ _ f. let z : ⊥ = omega arith in absurd z)) (λ d _. absurd (d e))

-- an import without a fault stands between functions
pub import-ground : (w : Width) (t : List ℕ) (n : ℕ) (u : Span) (x : World) → none ≤ fault_in w t n u x → line_kind t u.word ≡ 36
    → ground_in x.state (open_row x) ≡ 1
unfolding fault_in
import-ground w t n u x c e =
    line-one (ground_in x.state (open_row x)) (line_kind t u.word) e (clean_line w t n u (line_kind t u.word) (ground_in x.state (open_row x)) x.state c)
