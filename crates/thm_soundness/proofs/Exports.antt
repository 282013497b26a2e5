-- Between an export and the definition behind it stands no statement: what stands there with nothing open makes no rows.
-- Assumes nothing.
use mathlib.Core.Path.{◌≡◌, refl, sym, ◌∙◌, ap, subst}
use mathlib.Core.Bool.{Bool, true, false}
use mathlib.Core.List.{List, [], ◌∷◌}
use mathlib.Core.Logic.{◌⊎◌, inl, inr, ⊎_elim}
use Prim.Native.Nat.{ℕ, zero, suc, ◌+◌, ◌*◌, ◌-◌, ◌≤◌, ◌<◌}
use native.Mathlib.Decide.{dec_lt, ℕ_discrete}
use native.Mathlib.Omega.{arith}
use lib.Dec.{T, eqb}
use lib.ListN.{length, length-replicate}
use borrow.Author.Tests.{eqb-true, ne_eqb}
use Rattle.base_prelude.specs.Choice.{pick, if_lt, if_eq, if_true}
use Rattle.base_prelude.specs.Fault.{none}
use Rattle.base_prelude.specs.Lists.{zeros, is_among}
use Rattle.base_prelude.specs.Walk.{Step, go, stop, walk}
use Rattle.base_prelude.proofs.Choice.{either, either-eq, if_lt-yes, if_lt-no, if_eq-yes, if_eq-no, if_true-yes, if_true-no, true-false}
use Rattle.base_prelude.proofs.Table.{under, under_at}
use Rattle.base_prelude.proofs.Walk.{walk-go, walk-stop, Runs, runs-start, runs-go, runs-stop}
use Rattle.base_limits.specs.declared.Width.{Width}
use Rattle.lang_kinds.specs.Nesting.{rows_of, ground_of}
use Rattle.lang_kinds.specs.Standing.{ground_numbered, lines_on, stands_on}
use Rattle.parse_lines.specs.Units.{unit_at}
use Rattle.parse_lines.specs.Lines.{line_kind}
use Rattle.parse_lines.specs.declared.Span.{Span}
use Rattle.parse_units.specs.Outline.{row_at}
use Rattle.parse_units.specs.Places.{ground_in, unit_fault}
use Rattle.parse_units.specs.Parse.{World, world, Result, parse_result, begin, grow_by, state_behind, join_state, advance, section_behind, open_row, fault_in, unit_step, parse_from, parse_of}
use Rattle.parse_units.specs.Fits.{UnitStepFits}
use Rattle.parse_units.specs.declared.Row as outlined
use Rattle.parse_units.specs.declared.State.{State}
use Rattle.std.proofs.Common.{Ok, Err}
use Rattle.parse_units.specs.Verdict.{Verdict, accepted, refused}
use Rattle.parse_units.proofs.Bounds.{unit-order, unit-next, line-some, clean-room, unit-clean}
use Rattle.parse_units.proofs.UnitSteps.{UnitStepGood, unit-step-good}
use Rattle.parse_outline.specs.Outline.{answer_of, outline_of, Outlined}
use Rattle.parse_outline.specs.Outline as outline
use Rattle.parse_outline.specs.Parsed.{Parsed}
use Rattle.parse_outline.specs.Parsed as answer
use Rattle.res_skeleton.specs.Skeleton.{skeleton_of}
use Rattle.res_scope.specs.Lines.{first_token, end_token}
use Rattle.res_exports.specs.Exports.{definitions, is_definition, search_ends, ends_search, nowhere, seek_on, seek_step, definition_from}
use Rattle.thm_outline.proofs.Lines.{first-is, end_is}
use Rattle.thm_outline.proofs.Kept.{section-low}
use Rattle.thm_outline.proofs.Steps.{refused-step, end_step, go_step}
use Rattle.thm_outline.proofs.Grown.{Grown, grow-grown}
use Rattle.thm_outline.proofs.Unit.{line_low, unit-stands}
use Rattle.thm_acceptance.specs.Lines.{Line, line_from, lines_from, lines_of, EachFrom, EachLine}
use Rattle.thm_acceptance.proofs.Opens.{implies, imply}
use Rattle.thm_acceptance.proofs.Page.{each_map}

-- ---- kinds of lines

-- with nothing open a line is a function, or makes no row
bare : ℕ → ℕ → Bool
bare g k = implies (stands_on g k) (pick (is_definition k) true (eqb (rows_of k) 0))

bare-all : T (under (λ g. under (bare g) 37) 4)
unfolding bare stands_on is_among ground_numbered lines_on rows_of is_definition if_lt if_eq
bare-all = tt

rows_none : (g k : ℕ) → g ≤ 3 → k ≤ 36 → stands_on g k ≡ true → is_definition k ≡ false → rows_of k ≡ 0
unfolding bare
rows_none g k a b e d =
    let h : pick (is_definition k) true (eqb (rows_of k) 0) ≡ true =
    imply (stands_on g k) _ (under_at (bare g) 37 k (under_at (λ g. under (bare g) 37) 4 g bare-all (omega arith)) (omega arith)) e in
    eqb-true (rows_of k) 0 (ap (λ (v : Bool). pick v true (eqb (rows_of k) 0)) (sym d) ∙ h)

-- an export stands in nothing that is open
out : (stands_on 0 27 ≡ false) × (stands_on 4 27 ≡ false) × (stands_on 5 27 ≡ false) × (stands_on 6 27 ≡ false) × (stands_on 7 27 ≡ false)
unfolding stands_on is_among ground_numbered lines_on if_eq
out = (refl, refl, refl, refl, refl)

export-out : (k : ℕ) → stands_on (ground_of k) 27 ≡ false
unfolding ground_of
export-out k =
    either-eq (λ (g : ℕ). stands_on g 27 ≡ false) k 1 _ _ (λ _. out.1) (λ _.
    either-eq (λ (g : ℕ). stands_on g 27 ≡ false) k 3 _ _ (λ _. out.2) (λ _.
    either (λ (g : ℕ). stands_on g 27 ≡ false) k 14 _ _ (λ _. out.0) (λ _.
    either (λ (g : ℕ). stands_on g 27 ≡ false) k 20 _ _ (λ _. out.3) (λ _.
    either-eq (λ (g : ℕ). stands_on g 27 ≡ false) k 20 _ _ (λ _. out.4) (λ _. out.0)))))

export-rows : rows_of 27 ≡ 0
unfolding rows_of if_eq if_lt
export-rows = refl

export-top : (s : State) (o : outlined.Row) → stands_on (ground_in s o) 27 ≡ true → s.top ≡ 0
unfolding ground_in
export-top s o h =
    elim (ℕ_discrete s.top 0) [
      | yes e ↦ e
      | no d ↦ true-false (sym h ∙ ap (λ (g : ℕ). stands_on g 27) (if_eq-no _ _ d) ∙ export-out o.kind)
    ]

ground-top : (s : State) (o : outlined.Row) → s.top ≡ 0 → ground_in s o ≡ s.section
unfolding ground_in
ground-top s o e = if_eq-yes _ _ e

-- ---- the parser's walk, line by line

-- what is known of a world
record Fine (t : List ℕ) (x : World) : Type 0 where
  fits : UnitStepFits t x.table x.state
  few : x.state.labels ≤ x.state.at
  section : x.state.section ≤ 3
  -- its rows end before the next unit
  ends : (m : ℕ) → 1 ≤ m → m < x.state.count → (row_at x.table m).next ≤ x.state.at

module _ (w : Width) (t : List ℕ) (n : ℕ) (x : World) (h : Fine t x) where
  abbrev u : Span
  u = unit_at t x.state.at

  abbrev k : ℕ
  k = line_kind t (unit_at t x.state.at).word

  abbrev on : World
  on = advance t n (unit_at t x.state.at) (line_kind t (unit_at t x.state.at).word) x

  module _ (c : none ≤ fault_in w t n u x) where
    clean : none ≤ unit_fault w t n u k (ground_in x.state (open_row x)) x.state
    clean = unit-clean w t n u x c

    stands : stands_on (ground_in x.state (open_row x)) k ≡ true
    stands = unit-stands w t n u k (ground_in x.state (open_row x)) x.state clean

    grown : Grown x (grow_by (rows_of k) t u k x) u k (rows_of k)
    grown =
        grow-grown t u k x (unit-order t x.state.at).2
        (omega (arith, clean-room w t n u k (ground_in x.state (open_row x)) x.state clean, h.fits.free)) h.fits.long

    -- the world behind the line
    grown-on : Grown x on u k (rows_of k)
    unfolding advance join_state
    grown-on = record { long = grown.long; count = grown.count; stays = grown.stays; first = grown.first; last = grown.last; within = grown.within }

    at_on : on.state.at ≡ u.next
    unfolding advance join_state state_behind
    at_on = refl

    section-on : on.state.section ≡ section_behind k x.state.section
    unfolding advance join_state state_behind
    section-on = refl

    top-on : rows_of k ≡ 0 → on.state.top ≡ x.state.top
    unfolding advance join_state grow_by
    top-on e = ap (λ (v : World). v.state.top) (if_eq-yes _ _ e)

    fine-on : (k ≡ 0 → ⊥) → Fine t on
    fine-on d =
        let g : UnitStepGood t x.state (go on) = subst (UnitStepGood t x.state) (go_step w t n x c d) (unit-step-good w t n x.state x.table h.fits h.few) in
        let o = unit-order t x.state.at in
        record {
          fits = g.0.0;
          few = g.0.1;
          section = omega (arith, section-on, section-low k x.state.section (let z : x.state.section < 4 = omega (arith, h.section) in z));
          ends = λ m a b. elim (dec_lt m x.state.count) [
            | yes e ↦ omega (arith, ap (λ (r : outlined.Row). r.next) (grown-on.stays m e), h.ends m a e, at_on, o.0, o.1, o.2)
            | no e ↦ omega (arith, (grown-on.within m (omega arith) b).1, at_on)
          ];
        }

-- what holds of a world and the answer of the walk from it, from what holds of the world behind its line
module _ (w : Width) (t : List ℕ) (n : ℕ) (P : World → Result → Type 0) where
  abbrev Refusing : Type 0
  Refusing = (x : World) (key : ℕ) (z : List ℕ) → P x (parse_result (refused key) z)

  abbrev Ending : Type 0
  Ending = (x : World) (h : Fine t x) → none ≤ fault_in w t n (unit_at t x.state.at) x → line_kind t (unit_at t x.state.at).word ≡ 0
      → P x (parse_result (accepted x.state.count x.state.labels) x.table)

  abbrev Going : Type 0
  Going = (x : World) (h : Fine t x) → none ≤ fault_in w t n (unit_at t x.state.at) x → (line_kind t (unit_at t x.state.at).word ≡ 0 → ⊥)
      → (r : Result) → P (advance t n (unit_at t x.state.at) (line_kind t (unit_at t x.state.at).word) x) r → P x r

  by_lines : Refusing → Ending → Going → (fuel : ℕ) (x : World) → Fine t x → P x (walk (unit_step w t n) (parse_result (refused none) []) fuel x)
  unfolding walk
  by_lines a b c zero x h = a x none []
  by_lines a b c (suc fuel) x h =
      elim (dec_lt (fault_in w t n (unit_at t x.state.at) x) none) [
        | yes l ↦ subst (P x) (sym (walk-stop (unit_step w t n) (parse_result (refused none) []) fuel x _ (refused-step w t n x l))) (a x _ _)
        | no l ↦
            let g : none ≤ fault_in w t n (unit_at t x.state.at) x = omega arith in
            elim (ℕ_discrete (line_kind t (unit_at t x.state.at).word) 0) [
              | yes e ↦ subst (P x) (sym (walk-stop (unit_step w t n) (parse_result (refused none) []) fuel x _ (end_step w t n x g e))) (b x h g e)
              | no d ↦ subst (P x) (sym (walk-go (unit_step w t n) (parse_result (refused none) []) fuel x _ (go_step w t n x g d)))
                  (c x h g d _ (by_lines a b c fuel _ (fine-on w t n x h g d)))
            ]
      ]

-- what holds of an accepted answer: its first free row, and its outline
abbrev Told : (ℕ → List ℕ → Type 0) → Verdict → List ℕ → Type 0
Told P (Ok v) z = P v.count z
Told P (Err key) z = Unit {0}

abbrev Final : (ℕ → List ℕ → Type 0) → Result → Type 0
Final P r = Told P r.verdict r.outline

told-map : (P Q : ℕ → List ℕ → Type 0) → ((c : ℕ) (z : List ℕ) → P c z → Q c z) → (v : Verdict) (z : List ℕ) → Told P v z → Told Q v z
told-map P Q f (Ok v) z h = f v.count z h
told-map P Q f (Err key) z h = tt

told-map₂ : (P Q R : ℕ → List ℕ → Type 0) → ((c : ℕ) (z : List ℕ) → P c z → Q c z → R c z) → (v : Verdict) (z : List ℕ) → Told P v z → Told Q v z → Told R v z
told-map₂ P Q R f (Ok v) z h g = f v.count z h g
told-map₂ P Q R f (Err key) z h g = tt

-- ---- rows that come later stand later

abbrev Later : List ℕ → World → ℕ → List ℕ → Type 0
Later t x c z = (x.state.count ≤ c) × ((m : ℕ) → m < x.state.count → row_at z m ≡ row_at x.table m)
    × ((m : ℕ) → x.state.count ≤ m → m < c → (unit_at t x.state.at).word ≤ (row_at z m).token)

module _ (w : Width) (t : List ℕ) (n : ℕ) (x : World) (h : Fine t x) (f : none ≤ fault_in w t n (unit_at t x.state.at) x) where
  later-on : (c : ℕ) (z : List ℕ) → Later t (on w t n x h) c z → Later t x c z
  later-on c z g =
      let a = grown-on w t n x h f in
      let o = unit-order t x.state.at in
      let p = unit-order t (on w t n x h).state.at in (
        omega (arith, a.count, g.0),
        λ m b. g.1 m (omega (arith, a.count)) ∙ a.stays m b,
        λ m b d. elim (dec_lt m (on w t n x h).state.count) [
          | yes e ↦ omega (arith, ap (λ (r : outlined.Row). r.token) (g.1 m e), (a.within m b e).0)
          | no e ↦ omega (arith, g.2 m (omega arith) d, o.2, p.0, p.1, at_on w t n x h f)
        ],
      )

-- ---- from an export to its definition

-- each row ends at or before token e, or begins at or behind token d
abbrev Clear : ℕ → ℕ → ℕ → List ℕ → Type 0
Clear e d c z = (m : ℕ) → 1 ≤ m → m < c → ((row_at z m).next ≤ e) ⊎ (d ≤ (row_at z m).token)

-- the rows of a world end at or before token e, and the search that gives d is at its unit
record Search (t : List ℕ) (x : World) (e : ℕ) (d : Span) : Type 0 where
  top : x.state.top ≡ 0
  rows : (m : ℕ) → 1 ≤ m → m < x.state.count → (row_at x.table m).next ≤ e
  runs : Runs (seek_step t) nowhere d x.state.at (suc (4097 - x.state.at))

abbrev Cleared : List ℕ → World → Result → Type 0
Cleared t x r = (e : ℕ) (d : Span) → Search t x e d → Final (Clear e d.word) r

abbrev Both : List ℕ → World → Result → Type 0
Both t x r = Final (Later t x) r × Cleared t x r

module _ (w : Width) (t : List ℕ) (n : ℕ) where
  both-refused : Refusing w t n (Both t)
  both-refused x key z = (tt, λ e d s. tt)

  both_end : Ending w t n (Both t)
  both_end x h f q = (
    (omega arith, λ m b. refl, λ m b c. let z : ⊥ = omega arith in absurd z),
    λ e d s m a b. inl (s.rows m a b),
  )

  module _ (x : World) (h : Fine t x) (f : none ≤ fault_in w t n (unit_at t x.state.at) x) (some : line_kind t (unit_at t x.state.at).word ≡ 0 → ⊥) where
    abbrev sort : ℕ
    sort = line_kind t (unit_at t x.state.at).word

    seek_is : is_definition sort ≡ true → seek_step t x.state.at ≡ stop (unit_at t x.state.at)
    unfolding seek_step seek_on
    seek_is e = if_true-yes _ _ e

    seek-ends : is_definition sort ≡ false → ends_search sort ≡ true → seek_step t x.state.at ≡ stop nowhere
    unfolding seek_step seek_on
    seek-ends e g = if_true-no _ _ e ∙ if_true-yes _ _ g

    seek-goes : is_definition sort ≡ false → ends_search sort ≡ false → seek_step t x.state.at ≡ go (unit_at t x.state.at).next
    unfolding seek_step seek_on
    seek-goes e g = if_true-no _ _ e ∙ if_true-no _ _ g

    module _ (e : ℕ) (d : Span) (s : Search t x e d) where
      -- a definition: what comes is behind its word
      clear-here : (c : ℕ) (z : List ℕ) → unit_at t x.state.at ≡ d → Later t x c z → Clear e d.word c z
      clear-here c z q l m a b =
          elim (dec_lt m x.state.count) [
            | yes g ↦ inl (omega (arith, ap (λ (r : outlined.Row). r.next) (l.1 m g), s.rows m a g))
            | no g ↦ inr (omega (arith, ap (λ (v : Span). v.word) q, l.2 m (omega arith) b))
          ]

      -- a `section`: there is no definition
      clear_none : (c : ℕ) (z : List ℕ) → nowhere ≡ d → Later t x c z → Clear e d.word c z
      clear_none c z q l m a b = inr (omega (arith, ap (λ (v : Span). v.word) q))

      -- another line makes no row
      search-on : is_definition sort ≡ false → ends_search sort ≡ false → Search t (on w t n x h) e d
      search-on p q =
          let r : rows_of sort ≡ 0 = rows_none (ground_in x.state (open_row x)) sort (omega (arith, ground-top x.state (open_row x) s.top, h.section)) (line_low t (unit_at t x.state.at).word) (stands w t n x h f) p in
          let g = grown-on w t n x h f in
          let o = unit-order t x.state.at in
          let i : (unit_at t x.state.at).word < 4096 = line-some t (unit_at t x.state.at).word h.fits.tokens some in
          let j : (unit_at t x.state.at).next ≤ 4097 = unit-next t x.state.at h.fits.tokens (omega arith) in
          record {
            top = top-on w t n x h f r ∙ s.top;
            rows = λ m a b. let v : m < x.state.count = omega (arith, g.count) in
                omega (arith, ap (λ (r : outlined.Row). r.next) (g.stays m v), s.rows m a v);
            runs = subst (λ (v : ℕ). Runs (seek_step t) nowhere d v (suc (4097 - v))) (sym (at_on w t n x h f))
                (runs-go _ _ _ _ _ (4097 - x.state.at) _ s.runs (seek-goes p q) (omega (arith, o.0, o.1, o.2)));
          }

    both_go : (r : Result) → Both t (on w t n x h) r → Both t x r
    both_go r b =
        let l : Final (Later t x) r = told-map (Later t (on w t n x h)) (Later t x) (later-on w t n x h f) r.verdict r.outline b.0 in
        (l, λ e d s. by (is_definition sort) (ends_search sort) refl refl l e d s)
      where
        by : (p q : Bool) → is_definition sort ≡ p → ends_search sort ≡ q → Final (Later t x) r → (e : ℕ) (d : Span) → Search t x e d → Final (Clear e d.word) r
        by true q g i l e d s =
            told-map (Later t x) (Clear e d.word) (λ c z. clear-here e d s c z (runs-stop _ _ _ _ _ _ s.runs (seek_is g))) r.verdict r.outline l
        by false true g i l e d s =
            told-map (Later t x) (Clear e d.word) (λ c z. clear_none e d s c z (runs-stop _ _ _ _ _ _ s.runs (seek-ends g i))) r.verdict r.outline l
        by false false g i l e d s = b.1 e d (search-on e d s g i)

-- ---- each export

-- no row stands between an export's line and the definition behind it
abbrev ClearLine : List ℕ → ℕ → List ℕ → List Line → Line → Type 0
ClearLine t c z before v = v.kind ≡ 27 → Clear v.unit.word (definition_from t v.unit.next).word c z

abbrev AllClear : List ℕ → World → Result → Type 0
AllClear t x r = Both t x r × ((left : ℕ) (before : List Line) → Final (λ c z. EachFrom (ClearLine t c z) before (lines_from left t x.state.at)) r)

lines-zero : (P : List Line → Line → Type 0) (t : List ℕ) (at : ℕ) (before : List Line) → EachFrom P before (lines_from zero t at)
unfolding lines_from
lines-zero P t at before = tt

module _ (P : List Line → Line → Type 0) (t : List ℕ) (at left : ℕ) (before : List Line) where
  abbrev line : Line
  line = record { unit = unit_at t at; kind = line_kind t (unit_at t at).word }

  lines_end : line.kind ≡ 0 → P before line → EachFrom P before (lines_from (suc left) t at)
  unfolding lines_from line_from
  lines_end e p = (p, subst (EachFrom P (line ∷ before)) (sym (if_eq-yes [] (lines_from left t line.unit.next) e)) tt)

  lines-on : (line.kind ≡ 0 → ⊥) → P before line → EachFrom P (line ∷ before) (lines_from left t line.unit.next) → EachFrom P before (lines_from (suc left) t at)
  unfolding lines_from line_from
  lines-on d p h = (p, subst (EachFrom P (line ∷ before)) (sym (if_eq-no [] (lines_from left t line.unit.next) d)) h)

module _ (w : Width) (t : List ℕ) (n : ℕ) where
  all-refused : Refusing w t n (AllClear t)
  all-refused x key z = (both-refused w t n x key z, λ left before. tt)

  all_end : Ending w t n (AllClear t)
  all_end x h f q = (both_end w t n x h f q, by)
    where
      by : (left : ℕ) (before : List Line) → EachFrom (ClearLine t x.state.count x.table) before (lines_from left t x.state.at)
      by zero before = lines-zero _ t x.state.at before
      by (suc left) before = lines_end _ t x.state.at left before q (λ e. let z : ⊥ = omega arith in absurd z)

  module _ (x : World) (h : Fine t x) (f : none ≤ fault_in w t n (unit_at t x.state.at) x) (some : line_kind t (unit_at t x.state.at).word ≡ 0 → ⊥) where
    -- an export stands with nothing open, and makes no row
    export-search : sort w t n x h f some ≡ 27 → Search t (on w t n x h) (unit_at t x.state.at).word (definition_from t (unit_at t x.state.at).next)
    unfolding definition_from
    export-search e =
        let p : stands_on (ground_in x.state (open_row x)) 27 ≡ true = subst (λ (v : ℕ). stands_on (ground_in x.state (open_row x)) v ≡ true) e (stands w t n x h f) in
        let r : rows_of (sort w t n x h f some) ≡ 0 = ap rows_of e ∙ export-rows in
        let g = grown-on w t n x h f in
        let o = unit-order t x.state.at in
        record {
          top = top-on w t n x h f r ∙ export-top x.state (open_row x) p;
          rows = λ m a b. let v : m < x.state.count = omega (arith, g.count) in
              omega (arith, ap (λ (r : outlined.Row). r.next) (g.stays m v), h.ends m a v, o.0, o.1);
          runs = subst (λ (v : ℕ). Runs (seek_step t) nowhere (definition_from t (unit_at t x.state.at).next) v (suc (4097 - v))) (sym (at_on w t n x h f))
              (runs-start _ _ _ _ _ (omega (arith, h.fits.tokens)));
        }

    line_clear : (r : Result) → Both t (on w t n x h) r → Final (λ c z. ClearLine t c z [] (line (λ b v. Unit {0}) t x.state.at 0 [])) r
    line_clear r b =
        elim (ℕ_discrete (sort w t n x h f some) 27) [
          | yes e ↦ told-map (Clear (unit_at t x.state.at).word (definition_from t (unit_at t x.state.at).next).word) _ (λ c z g _. g) r.verdict r.outline (b.1 _ _ (export-search e))
          | no d ↦ any r.verdict r.outline d
        ]
      where
        any : (v : Verdict) (z : List ℕ) → (sort w t n x h f some ≡ 27 → ⊥) → Told (λ c z. ClearLine t c z [] (line (λ b v. Unit {0}) t x.state.at 0 [])) v z
        any (Ok v) z d = λ e. absurd (d e)
        any (Err key) z d = tt

    all_go : (r : Result) → AllClear t (on w t n x h) r → AllClear t x r
    all_go r b = (both_go w t n x h f some r b.0, by)
      where
        by : (left : ℕ) (before : List Line) → Final (λ c z. EachFrom (ClearLine t c z) before (lines_from left t x.state.at)) r
        by zero before = told-map (Later t (on w t n x h)) _ (λ c z _. lines-zero (ClearLine t c z) t x.state.at before) r.verdict r.outline b.0.0
        by (suc left) before =
            told-map₂ _ _ _ (λ c z p g. lines-on (ClearLine t c z) t x.state.at left before some p g) r.verdict r.outline (line_clear r b.0)
            (subst (λ (at : ℕ). Final (λ c z. EachFrom (ClearLine t c z) (line (λ b v. Unit {0}) t x.state.at 0 [] ∷ before) (lines_from left t at)) r) (at_on w t n x h f)
            (b.1 left (line (λ b v. Unit {0}) t x.state.at 0 [] ∷ before)))

begin-fine : (t : List ℕ) → length t ≡ 32768 → Fine t (world begin (zeros 8200))
begin-fine t e =
    record {
      fits = record { tokens = e; long = length-replicate {A = ℕ} 8200 0; near = omega arith; few = omega arith; free = omega arith };
      few = omega arith;
      section = omega arith;
      ends = λ m a b. let z : ⊥ = omega arith in absurd z;
    }

parse-clear : (w : Width) (t : List ℕ) (n : ℕ) → length t ≡ 32768 → Final (λ c z. EachLine t (ClearLine t c z)) (parse_of w t n)
unfolding parse_of parse_from lines_of
parse-clear w t n e =
    (by_lines w t n (AllClear t) (all-refused w t n) (all_end w t n) (λ x h f d r. all_go w t n x h f d r) (suc (length t)) (world begin (zeros 8200)) (begin-fine t e)).1 (suc (length t)) []

-- ---- the outline

-- of statement m in an outline z, with an export's line v
abbrev ClearOf : List ℕ → ℕ → List ℕ → List Line → Line → Type 0
ClearOf t c z before v =
    v.kind ≡ 27 → (m : ℕ) → m < c → ((row_at z (m + 1)).next ≤ v.unit.word) ⊎ ((definition_from t v.unit.next).word ≤ (row_at z (m + 1)).token)

abbrev ClearBy : List ℕ → Parsed → List ℕ → Type 0
ClearBy t (Ok o) z = EachLine t (ClearOf t o.statements z)
ClearBy t (Err r) z = Unit {0}

answer-clear : (t z : List ℕ) (v : Verdict) → Told (λ c z. EachLine t (ClearLine t c z)) v z → ClearBy t (answer_of v) z
unfolding answer_of
answer-clear t z (Ok v) h =
    each_map (ClearLine t v.count z) (ClearOf t (v.count - 1) z) (λ before v f e m g. f e (m + 1) (omega arith) (omega arith)) [] (lines_of t) h
answer-clear t z (Err key) h = tt

outline-clear : (w : Width) (t : List ℕ) (n : ℕ) → length t ≡ 32768 → ClearBy t (outline_of w t n).answer (outline_of w t n).rows
unfolding outline_of
outline-clear w t n e = answer-clear t (parse_of w t n).outline (parse_of w t n).verdict (parse-clear w t n e)

-- a statement ends at or before the magic word of an export's line, or begins at or behind that of the definition behind it
abbrev pub Apart : List ℕ → List ℕ → ℕ → List Line → Line → Type 0
Apart t k c before v =
    v.kind ≡ 27 → (m : ℕ) → m < c → (end_token k m ≤ v.unit.word) ⊎ ((definition_from t v.unit.next).word ≤ first_token k m)

pub exports-apart : (w : Width) (t : List ℕ) (n c l : ℕ) (x y : List ℕ) → length t ≡ 32768 → outline_of w t n ≡ outline.parsed (answer.accepted c l) x y
    → EachLine t (Apart t (skeleton_of x c) c)
exports-apart w t n c l x y long h =
    each_map (ClearOf t c x) (Apart t (skeleton_of x c) c) (λ before v f e m g.
    ⊎_elim (λ a. inl (omega (arith, a, end_is w t n c l x y long h m g))) (λ a. inr (omega (arith, a, first-is w t n c l x y long h m g))) (f e m g)) [] (lines_of t)
    (subst (λ (o : Outlined). ClearBy t o.answer o.rows) h (outline-clear w t n long))
