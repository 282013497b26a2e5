-- The loop over units.
-- Assumes nothing.
use mathlib.Core.Path.{◌≡◌, refl, sym, ◌∙◌, ap, ap₂, subst}
use mathlib.Core.List.{List, [], ◌∷◌}
use Prim.Native.Nat.{ℕ, zero, suc, ◌+◌, ◌*◌, ◌-◌, ◌%◌, ◌/◌, ◌≤◌, ◌<◌}
use native.Mathlib.Omega.{arith}
use lib.ListN.{length}
use Rattle.base_prelude.specs.Choice.{if_lt, if_eq}
use Rattle.base_prelude.specs.Lists.{zeros}
use Rattle.base_prelude.specs.Walk.{Step, go, stop, walk}
use Rattle.base_prelude.proofs.Choice.{either, either-eq, if_eq-yes, if_eq-no}
use Rattle.base_prelude.proofs.Walk.{Runs, runs-start, runs-go, runs-stop}
use Rattle.lang_kinds.specs.Nesting.{rows_of}
use Rattle.lang_kinds.proofs.RowCounts.{rows_few}
use Rattle.parse_lines.specs.Units.{unit_at}
use Rattle.parse_lines.specs.Lines.{line_kind}
use Rattle.parse_lines.specs.declared.Span.{Span}
use Rattle.parse_units.proofs.Bounds.{unit-order, unit-near, unit-next, line-some}
use Rattle.parse_outline.specs.Labels.{Marked, marked, mark_unit, Marking, marking, marks_behind, mark_on, mark_step, going, marks_from, first_marks, label_rows}
use Rattle.parse_outline.specs.Fits.{MarksFit}
use Rattle.parse_outline.specs.declared.Marks.{Marks}
use Rattle.std.proofs.Common.{Option, Some, None}
use Rattle.parse_outline.proofs.Cases.{unit_kept}

pub rows_fit : (s : Marks) (k r : ℕ) → s.row ≤ 8195 → r ≡ rows_of k → s.row + r < 4294967296
rows_fit s k r h e = omega (arith, rows_few k)

module _ (t : List ℕ) (s : Marks) (x : List ℕ) (u : Span) (k : ℕ) (h : MarksFit t x s) (pu : u ≡ unit_at t s.at) where
  pub step-near : u.word ≤ 4097
  step-near = subst (λ (v : Span). v.word ≤ 4097) (sym pu) (unit-near t s.at h.tokens h.near)

  pub step_small : u.word < 4294967295
  step_small = omega (arith, step-near)

pub marks-few : (t : List ℕ) (x : List ℕ) (s : Marks) → MarksFit t x s → s.labels ≤ 4097
marks-few t x s h = omega (arith, h.few, h.near)

pub marks-rows : (t : List ℕ) (x : List ℕ) (s : Marks) → MarksFit t x s → s.row ≤ 8195
marks-rows t x s h = omega (arith, h.rows, h.near)

module _ (t : List ℕ) (s : Marks) (x : List ℕ) (u : Span) (k c : ℕ) (x' : List ℕ) (pu : u ≡ unit_at t s.at) (pk : k ≡ line_kind t u.word) (pc : marked c x' ≡ mark_unit t u k s x) where
  kind-is : k ≡ line_kind t (unit_at t s.at).word
  kind-is = pk ∙ ap (λ (v : Span). line_kind t v.word) pu

  on-is : mark_step t (marking s x) ≡ mark_on t u k (marking s x)
  unfolding mark_step
  on-is = ap₂ (λ (v : Span) (i : ℕ). mark_on t v i (marking s x)) (sym pu) (sym kind-is)

  pub step-over : k ≡ 0 → going None x' ≡ mark_step t (marking s x)
  unfolding mark_on
  step-over e = ap (λ (m : Marked). stop m.table) pc ∙ sym (on-is ∙ if_eq-yes _ _ e)

  pub step-on : (y : Marks) → (k ≡ 0 → ⊥) → y ≡ marks_behind u k s c → going (Some y) x' ≡ mark_step t (marking s x)
  unfolding mark_on
  step-on y e q =
      ap (λ (z : Marks). go (marking z x')) q ∙ ap (λ (m : Marked). go (marking (marks_behind u k s m.count) m.table)) pc ∙ sym (on-is ∙ if_eq-no _ _ e)

pub ruleset stepping = (step-over, step-on)

abbrev StepGood : List ℕ → Marks → Step Marking (List ℕ) → Type 0
StepGood t s (go m) = MarksFit t m.table m.state × (s.at < m.state.at)
StepGood t s (stop x) = Unit {0}

step-good : (t : List ℕ) (s : Marks) (x : List ℕ) → MarksFit t x s → StepGood t s (mark_step t (marking s x))
unfolding mark_step mark_on marks_behind
step-good t s x h =
    either-eq (StepGood t s) (line_kind t (unit_at t s.at).word) 0 _ _ (λ _. tt) (λ e.
    let o = unit-order t s.at in
    let i : (unit_at t s.at).word < 4096 = line-some t (unit_at t s.at).word h.tokens e in
    let n : (unit_at t s.at).next ≤ 4097 = unit-next t s.at h.tokens (omega arith) in
    let k = unit_kept t (unit_at t s.at) (line_kind t (unit_at t s.at).word) s x h.long in
    let r : rows_of (line_kind t (unit_at t s.at).word) ≤ 2 = rows_few (line_kind t (unit_at t s.at).word) in (
      record {
        tokens = h.tokens;
        long = k.0;
        near = n;
        few = omega (arith, k.1, h.few, o.0, o.1, o.2);
        rows = omega (arith, h.rows, o.0, o.1, o.2);
      },
      omega (arith, o.0, o.1, o.2),
    ))

-- the loop of `marks_from`
pub record Walking (t : List ℕ) (start : Marks) (x₀ : List ℕ) (s : Marks) (x : List ℕ) : Type 0 where
  pub fits : MarksFit t x s
  pub runs : Runs (mark_step t) [] (marks_from t (marking start x₀)) (marking s x) (suc (4097 - s.at))

module _ (t : List ℕ) (start : Marks) (x₀ : List ℕ) where
  pub walking_start : MarksFit t x₀ start → Walking t start x₀ start x₀
  unfolding marks_from
  walking_start h = record { fits = h; runs = runs-start _ _ _ _ _ (omega (arith, h.tokens)) }

  pub walking-fits : (s : Marks) (x : List ℕ) → Walking t start x₀ s x → MarksFit t x s
  walking-fits s x h = h.fits

  module _ (s : Marks) (x : List ℕ) (g : Option Marks) (x' : List ℕ) (h : Walking t start x₀ s x) (p : going g x' ≡ mark_step t (marking s x)) where
    more-good : (y : Marks) → g ≡ Some y → MarksFit t x' y × (s.at < y.at)
    more-good y e = subst (StepGood t s) (sym (ap (λ (z : Option Marks). going z x') (sym e) ∙ p)) (step-good t s x h.fits)

    pub walking-less : (y : Marks) → g ≡ Some y → 4097 - y.at < 4097 - s.at
    walking-less y e = let m = more-good y e in omega (arith, m.1, m.0.near)

    pub walking-more : (y : Marks) → g ≡ Some y → Walking t start x₀ y x'
    walking-more y e =
        record {
          fits = (more-good y e).0;
          runs = runs-go _ _ _ _ _ (4097 - s.at) _ h.runs (sym (ap (λ (z : Option Marks). going z x') (sym e) ∙ p)) (omega (arith, walking-less y e));
        }

    pub walking-done : g ≡ None → x' ≡ marks_from t (marking start x₀)
    walking-done e = runs-stop _ _ _ _ _ _ h.runs (sym (ap (λ (z : Option Marks). going z x') (sym e) ∙ p))

pub ruleset walking = (walking_start, walking-more, walking-done)

pub first_fits : (t x x' : List ℕ) (s : Marks) → length t ≡ 32768 → length x ≡ 1024 → length x' ≡ length x → s ≡ first_marks → MarksFit t x' s
first_fits t x x' s a b c e =
    subst (MarksFit t x') (sym e) (record { tokens = a; long = c ∙ b; near = omega arith; few = omega arith; rows = omega arith })

pub rows_are : (t x x' x'' : List ℕ) (s : Marks) → length x ≡ 1024 → x' ≡ zeros (length x) → s ≡ first_marks → x'' ≡ marks_from t (marking s x') → x'' ≡ label_rows t
unfolding label_rows
rows_are t x x' x'' s l e f q = q ∙ ap₂ (λ (a : Marks) (b : List ℕ). marks_from t (marking a b)) f (e ∙ ap zeros l)
