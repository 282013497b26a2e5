-- The step of a unit, and the loop.
-- Assumes nothing.
use mathlib.Core.Path.{◌≡◌, refl, sym, ◌∙◌, ap, ap₂, subst}
use mathlib.Core.Bool.{Bool, true, false}
use mathlib.Core.List.{List, [], ◌∷◌}
use Prim.Native.Nat.{ℕ, zero, suc, ◌+◌, ◌*◌, ◌-◌, ◌≤◌, ◌<◌}
use native.Mathlib.Omega.{arith}
use lib.ListN.{length, length-set}
use Rattle.base_prelude.specs.Choice.{if_lt, if_eq, if_true}
use Rattle.base_prelude.specs.Fault.{none}
use Rattle.base_prelude.specs.Lists.{zeros}
use Rattle.base_prelude.specs.Walk.{Step, go, stop, walk}
use Rattle.base_prelude.proofs.Choice.{tests, either, either-eq, if_lt-yes, if_lt-no, if_eq-yes, if_eq-no}
use Rattle.base_prelude.proofs.Walk.{Runs, runs-start, runs-go, runs-stop}
use Rattle.base_limits.specs.declared.Width.{Width}
use Rattle.lang_kinds.specs.Nesting.{rows_of}
use Rattle.parse_lines.specs.Units.{unit_at}
use Rattle.parse_lines.specs.Lines.{line_kind}
use Rattle.parse_lines.specs.declared.Span.{Span}
use Rattle.parse_rules.specs.Rules.{labels_rule}
use Rattle.parse_units.specs.Outline.{row_at, put_row}
use Rattle.parse_units.specs.Places.{ground_in, line_on, import_labels, unit_fault}
use Rattle.parse_units.specs.Parse.{World, world, put_state, put_kind, grow_two, grow_by, state_behind, join_state, advance, Result, parse_result, stepped, open_row, fault_in, unit_step_on, unit_step, begin, parse_from, parse_of}
use Rattle.parse_units.specs.Fits.{StepFits, UnitStepFits}
use Rattle.parse_units.specs.declared.Row.{Row}
use Rattle.parse_units.specs.declared.State.{State}
use Rattle.std.specs.declared.ops.ControlFlow.{ControlFlow}
use Rattle.std.specs.declared.ops.ControlFlow.TheVariants.{Continue, Break}
use Rattle.parse_units.specs.Verdict.{Verdict, accepted, refused}
use Rattle.parse_units.proofs.Cases.{row_put}
use Rattle.parse_units.proofs.Bounds.{unit-order, unit-near, unit-next, line-some, labels-count, import-few, clean-room, clean-lets, clean-deep, clean_line, unit-clean}

module _ (w : Width) (t : List ℕ) (n : ℕ) (s : State) (rows : List ℕ) (u : Span) (k g j : ℕ) (o : Row) (f : ℕ)
    (pu : u ≡ unit_at t s.at) (pk : k ≡ line_kind t u.word) (po : o ≡ row_at rows s.top) (pg : g ≡ ground_in s o) (pj : j ≡ line_on g k) (pf : f ≡ unit_fault w t n u j g s) where
  fault-is : f ≡ fault_in w t n (unit_at t s.at) (world s rows)
  unfolding fault_in open_row
  fault-is =
      pf ∙ ap (λ (i : ℕ). unit_fault w t n u i g s) pj ∙ ap (λ (i : ℕ). unit_fault w t n u (line_on i k) i s) (pg ∙ ap (ground_in s) po)
      ∙ ap (λ (i : ℕ). unit_fault w t n u (line_on (ground_in s (row_at rows s.top)) i) (ground_in s (row_at rows s.top)) s) pk
      ∙ ap (λ (v : Span). unit_fault w t n v (line_on (ground_in s (row_at rows s.top)) (line_kind t v.word)) (ground_in s (row_at rows s.top)) s) pu

  kind-is : k ≡ line_kind t (unit_at t s.at).word
  kind-is = pk ∙ ap (λ (v : Span). line_kind t v.word) pu

  pub unit-step-refused : f < none → stepped (Break (refused f)) rows ≡ unit_step w t n (world s rows)
  unfolding unit_step unit_step_on
  unit-step-refused h = rw (← fault-is) (sym (if_lt-yes _ _ h))

  pub unit-step-accepted : none ≤ f → k ≡ 0 → stepped (Break (accepted s.count s.labels)) rows ≡ unit_step w t n (world s rows)
  unfolding unit_step unit_step_on
  unit-step-accepted h e = rw (← fault-is, ← kind-is) (sym (if_lt-no _ _ h ∙ if_eq-yes _ _ e))

  pub unit-step-more : (x : State) (rows' : List ℕ) → none ≤ f → (k ≡ 0 → ⊥) → world x rows' ≡ advance t n u k (world s rows) → stepped (Continue x) rows' ≡ unit_step w t n (world s rows)
  unfolding unit_step unit_step_on
  unit-step-more x rows' h e q =
      ap go (q ∙ ap (λ (i : ℕ). advance t n u i (world s rows)) kind-is ∙ ap (λ (v : Span). advance t n v (line_kind t (unit_at t s.at).word) (world s rows)) pu)
      ∙ sym (if_lt-no _ _ (subst (λ (i : ℕ). none ≤ i) fault-is h) ∙ if_eq-no _ _ (λ z. e (kind-is ∙ z)))

  near-is : length t ≡ 32768 → s.at ≤ 4097 → u.word ≤ 4097
  near-is e h = subst (λ (v : Span). v.word ≤ 4097) (sym pu) (unit-near t s.at e h)

  pub unit-step-fits : UnitStepFits t rows s → none ≤ f → StepFits rows u k s
  unit-step-fits h c =
      let b : none ≤ unit_fault w t n u (line_on g k) g s = subst (λ (i : ℕ). none ≤ i) (pf ∙ ap (λ (i : ℕ). unit_fault w t n u i g s) pj) c in
      let c' : none ≤ unit_fault w t n u k g s = subst (λ (i : ℕ). none ≤ unit_fault w t n u i g s) (clean_line w t n u k g s b) b in
      let r : rows_of k ≤ 1025 - s.count = clean-room w t n u k g s c' in
      record {
        long = h.long;
        near = near-is h.tokens h.near;
        few = h.few;
        room = omega (arith, h.free);
        lets = clean-lets w t n u k g s c';
        deep = clean-deep w t n u k g s c';
      }

pub ruleset unit-stepping = (unit-step-refused, unit-step-accepted, unit-step-more)

pub unit-fits : (t : List ℕ) (rows : List ℕ) (s : State) (u : Span) → UnitStepFits t rows s → u ≡ unit_at t s.at → u.word ≤ 4097
unit-fits t rows s u h p = subst (λ (v : Span). v.word ≤ 4097) (sym p) (unit-near t s.at h.tokens h.near)

pub unit-small : (t : List ℕ) (rows : List ℕ) (s : State) (u : Span) → UnitStepFits t rows s → u ≡ unit_at t s.at → u.word < 4294967295
unit-small t rows s u h p = omega (arith, unit-fits t rows s u h p)

-- a step keeps the bounds
length-put : (t : List ℕ) (n : ℕ) (r : Row) → n * 8 + 8 ≤ length t → length (put_row t n r) ≡ length t
length-put t n r h = ap length (sym (row_put t n r h)) ∙ simp length-set

kind-put : (k token next operands : ℕ) (x : World) → x.state.count ≤ 1024 → length x.table ≡ 8200
    → (length (put_kind k token next operands x).table ≡ 8200) × ((put_kind k token next operands x).state.count ≡ x.state.count + 1)
unfolding put_kind put_state
kind-put k token next operands x h l = (length-put x.table x.state.count _ (omega arith) ∙ l, refl)

two-put : (t : List ℕ) (u : Span) (k : ℕ) (x : World) → x.state.count ≤ 1023 → length x.table ≡ 8200
    → (length (grow_two t u k x).table ≡ 8200) × ((grow_two t u k x).state.count ≡ x.state.count + 2)
unfolding grow_two
two-put t u k x h l =
    let a : (length (put_kind k u.word (u.word + 1) 0 x).table ≡ 8200) × ((put_kind k u.word (u.word + 1) 0 x).state.count ≡ x.state.count + 1) = kind-put k u.word (u.word + 1) 0 x (omega arith) l in
    let b = kind-put _ (u.word + 1) u.next 2 (put_kind k u.word (u.word + 1) 0 x) (omega (arith, a.1)) a.0 in
    (b.0, b.1 ∙ omega (arith, a.1))

grow-good : (m : ℕ) (t : List ℕ) (u : Span) (k : ℕ) (x : World) → x.state.count + m ≤ 1025 → length x.table ≡ 8200
    → (length (grow_by m t u k x).table ≡ 8200) × ((grow_by m t u k x).state.count ≤ x.state.count + m)
unfolding grow_by
grow-good m t u k x h l =
    either-eq (λ (y : World). (length y.table ≡ 8200) × (y.state.count ≤ x.state.count + m)) m 0 _ _ (λ _. (l, omega arith)) (λ a.
    either-eq (λ (y : World). (length y.table ≡ 8200) × (y.state.count ≤ x.state.count + m)) m 1 _ _
    (λ e. let p = kind-put k u.word u.next _ x (omega arith) l in (p.0, omega (arith, p.1)))
    (λ b. let p = two-put t u k x (omega arith) l in (p.0, omega (arith, p.1))))

-- where a step leads
abbrev pub UnitStepGood : List ℕ → State → Step World Result → Type 0
UnitStepGood t s (go x) = (UnitStepFits t x.table x.state × (x.state.labels ≤ x.state.at)) × (s.at < x.state.at)
UnitStepGood t s (stop r) = Unit {0}

module _ (w : Width) (t : List ℕ) (n : ℕ) (s : State) (rows : List ℕ) (h : UnitStepFits t rows s) (l : s.labels ≤ s.at) where
  abbrev u : Span
  u = unit_at t s.at

  abbrev k : ℕ
  k = line_kind t (unit_at t s.at).word

  advance-good : none ≤ fault_in w t n (unit_at t s.at) (world s rows) → (line_kind t (unit_at t s.at).word ≡ 0 → ⊥)
      → UnitStepGood t s (go (advance t n (unit_at t s.at) (line_kind t (unit_at t s.at).word) (world s rows)))
  unfolding advance join_state state_behind
  advance-good c e =
      let o = unit-order t s.at in
      let c' = unit-clean w t n (unit_at t s.at) (world s rows) c in
      let i : (unit_at t s.at).word < 4096 = line-some t (unit_at t s.at).word h.tokens e in
      let x : (unit_at t s.at).next ≤ 4097 = unit-next t s.at h.tokens (omega arith) in
      let r : rows_of (line_kind t (unit_at t s.at).word) ≤ 1025 - s.count = clean-room w t n (unit_at t s.at) (line_kind t (unit_at t s.at).word) (ground_in s (open_row (world s rows))) s c' in
      let m : s.count + rows_of (line_kind t (unit_at t s.at).word) ≤ 1025 = omega (arith, h.free) in
      let g = grow-good (rows_of (line_kind t (unit_at t s.at).word)) t (unit_at t s.at) (line_kind t (unit_at t s.at).word) (world s rows) m h.long in
      let b : (labels_rule t n (unit_at t s.at) s.labels).count + import_labels t (unit_at t s.at) (line_kind t (unit_at t s.at).word) ≤ (unit_at t s.at).next =
      omega (arith, labels-count t n (unit_at t s.at) s.labels, import-few t (unit_at t s.at) (line_kind t (unit_at t s.at).word), o.0, o.1, o.2) in (
        (record { tokens = h.tokens; long = g.0; near = x; few = omega arith; free = omega (arith, g.1) }, b),
        omega (arith, o.0, o.1, o.2),
      )

  pub unit-step-good : UnitStepGood t s (unit_step w t n (world s rows))
  unfolding unit_step unit_step_on
  unit-step-good =
      either (UnitStepGood t s) (fault_in w t n (unit_at t s.at) (world s rows)) none _ _ (λ _. tt) (λ c.
      either-eq (UnitStepGood t s) (line_kind t (unit_at t s.at).word) 0 _ _ (λ _. tt) (λ e. advance-good c e))

-- the loop of `parse_from`
pub record Parsing (w : Width) (t : List ℕ) (n : ℕ) (start : State) (rows₀ : List ℕ) (s : State) (rows : List ℕ) : Type 0 where
  pub fits : UnitStepFits t rows s
  pub labels : s.labels ≤ s.at
  pub runs : Runs (unit_step w t n) (parse_result (refused none) []) (parse_from w t n (world start rows₀)) (world s rows) (suc (4097 - s.at))

module _ (w : Width) (t : List ℕ) (n : ℕ) (start : State) (rows₀ : List ℕ) where
  pub parsing-start : UnitStepFits t rows₀ start → start.labels ≤ start.at → Parsing w t n start rows₀ start rows₀
  unfolding parse_from
  parsing-start h l = record { fits = h; labels = l; runs = runs-start _ _ _ _ _ (omega (arith, h.tokens)) }

  module _ (s : State) (rows : List ℕ) (x : ControlFlow Verdict State) (rows' : List ℕ) (h : Parsing w t n start rows₀ s rows) (p : stepped x rows' ≡ unit_step w t n (world s rows)) where
    more-is : (y : State) → x ≡ Continue y → go (world y rows') ≡ unit_step w t n (world s rows)
    more-is y e = ap (λ (z : ControlFlow Verdict State). stepped z rows') (sym e) ∙ p

    more-good : (y : State) → x ≡ Continue y → (UnitStepFits t rows' y × (y.labels ≤ y.at)) × (s.at < y.at)
    more-good y e = subst (UnitStepGood t s) (sym (more-is y e)) (unit-step-good w t n s rows h.fits h.labels)

    pub parsing-less : (y : State) → x ≡ Continue y → 4097 - y.at < 4097 - s.at
    parsing-less y e = let g = more-good y e in omega (arith, g.1, g.0.0.near)

    pub parsing-more : (y : State) → x ≡ Continue y → Parsing w t n start rows₀ y rows'
    parsing-more y e =
        let g = more-good y e in
        record {
          fits = g.0.0;
          labels = g.0.1;
          runs = runs-go _ _ _ _ _ (4097 - s.at) _ h.runs (sym (more-is y e)) (omega (arith, parsing-less y e));
        }

    pub parsing-done : (v : Verdict) → x ≡ Break v → parse_result v rows' ≡ parse_from w t n (world start rows₀)
    parsing-done v e = runs-stop _ _ _ _ _ _ h.runs (sym (ap (λ (z : ControlFlow Verdict State). stepped z rows') (sym e) ∙ p))

  pub parsing-fits : (s : State) (rows : List ℕ) → Parsing w t n start rows₀ s rows → UnitStepFits t rows s
  parsing-fits s rows h = h.fits

pub ruleset parsing = (parsing-start, parsing-more, parsing-done)

-- `parse_rows`
pub start_fits : (t rows rows' : List ℕ) (s : State) → length t ≡ 32768 → length rows ≡ 8200 → length rows' ≡ length rows → s ≡ begin → UnitStepFits t rows' s
start_fits t rows rows' s a b c e =
    subst (UnitStepFits t rows') (sym e) (record { tokens = a; long = c ∙ b; near = omega arith; few = omega arith; free = omega arith })

pub start-labels : (s : State) → s ≡ begin → s.labels ≤ s.at
start-labels s e = subst (λ (x : State). x.labels ≤ x.at) (sym e) (omega arith)

pub parse-is : (w : Width) (t : List ℕ) (n : ℕ) (rows rows' rows'' : List ℕ) (s : State) (r : Verdict) → length rows ≡ 8200 → rows' ≡ zeros (length rows) → s ≡ begin
    → parse_result r rows'' ≡ parse_from w t n (world s rows') → parse_result r rows'' ≡ parse_of w t n
unfolding parse_of
parse-is w t n rows rows' rows'' s r h e f q =
    q ∙ ap₂ (λ (x : State) (y : List ℕ). parse_from w t n (world x y)) f (e ∙ ap zeros h)
