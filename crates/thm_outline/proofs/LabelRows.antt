-- The label rows of an accepted source: each is a label token's, and names data, a function's row, or the first row of a statement's line, or
-- it is an import's, at its name, and holds the mark of the host's entry.
-- Assumes nothing.
use mathlib.Core.Path.{◌≡◌, refl, sym, ◌∙◌, ap, ap₂, subst}
use mathlib.Core.Bool.{Bool, true, false}
use mathlib.Core.List.{List, [], ◌∷◌}
use mathlib.Core.Logic.{◌⊎◌, inl, inr}
use Prim.Native.Nat.{ℕ, zero, suc, ◌+◌, ◌*◌, ◌-◌, ◌≤◌, ◌<◌}
use native.Mathlib.Decide.{dec_lt, ℕ_discrete}
use native.Mathlib.Omega.{arith}
use lib.Dec.{eqb}
use lib.ListN.{length, get_or, length-replicate, get_or-replicate}
use borrow.Author.Tests.{eq-eqb, ne_eqb}
use Rattle.base_prelude.specs.Choice.{if_lt, if_eq}
use Rattle.base_prelude.specs.Fault.{none}
use Rattle.base_prelude.specs.Lists.{zeros}
use Rattle.base_prelude.specs.Walk.{Step, go, stop, walk}
use Rattle.base_prelude.proofs.Choice.{either, either-eq, if_lt-yes, if_lt-no, if_eq-yes, if_eq-no}
use Rattle.base_prelude.proofs.Walk.{walk-go, walk-stop}
use Rattle.base_limits.specs.declared.Width.{Width}
use Rattle.lang_kinds.specs.Nesting.{rows_of}
use Rattle.parse_lines.specs.Tokens.{token_word, kind_at, host_at}
use Rattle.parse_lines.specs.Units.{unit_at}
use Rattle.parse_lines.specs.Lines.{line_kind}
use Rattle.parse_lines.specs.declared.Span.{Span}
use Rattle.parse_rules.specs.Rules.{labels_rule}
use Rattle.parse_units.specs.Outline.{row_at}
use Rattle.parse_units.specs.Places.{ground_in, import_labels, unit_fault}
use Rattle.parse_units.specs.Parse.{World, world, Result, parse_result, begin, grow_by, state_behind, join_state, advance, section_behind, open_row, fault_in, unit_step, parse_from, parse_of}
use Rattle.parse_units.specs.Fits.{UnitStepFits}
use Rattle.parse_units.specs.declared.Row as outlined
use Rattle.parse_units.specs.declared.State.{State}
use Rattle.std.proofs.Common.{Ok, Err}
use Rattle.parse_units.specs.Verdict.{Verdict, refused}
use Rattle.parse_units.proofs.Bounds.{unit-order, clean-room, unit-clean}
use Rattle.parse_units.proofs.UnitSteps.{UnitStepGood, unit-step-good}
use Rattle.parse_outline.specs.Labels as marks
use Rattle.parse_outline.specs.Labels.{label_number, Marked, marked, mark_before, mark_import, mark_unit, Marking, marking, marks_behind, mark_on, mark_step, marks_from, first_marks, label_rows}
use Rattle.parse_outline.specs.declared.Marks.{Marks}
use Rattle.parse_outline.proofs.Cases.{unit_kept}
use Rattle.parse_outline.specs.Outline.{answer_of, Outlined, parsed, outline_of}
use Rattle.parse_outline.specs.Parsed.{Parsed}
use Rattle.parse_outline.specs.Parsed as answer
use Rattle.parse_verdict.proofs.Counts.{accepted-counts}
use Rattle.res_skeleton.specs.Skeleton.{skeleton_of}
use Rattle.res_skeleton.proofs.Laws.{kind-is}
use Rattle.prog_tables.specs.Nesting.{follows_jump}
use Rattle.prog_tables.specs.Statement as statement
use Rattle.prog_tables.specs.Statement.{Row}
use Rattle.res_scope.specs.Lines.{end_token, label_token, label_kind, label_statement}
use Rattle.thm_outline.proofs.Lines.{end_is}
use Rattle.thm_outline.proofs.Steps.{refused-step, end_step, go_step}
use Rattle.thm_outline.proofs.Scans.{unit-plain}
use Rattle.thm_outline.proofs.Grown.{Grown, grow-grown}
use Rattle.thm_outline.proofs.Unit.{Free, unit-free, line-some, labelled-line, labelled-row}
use Rattle.thm_outline.proofs.Imports.{Listed, listed, import-free}
use Rattle.thm_outline.proofs.Marked.{RowHas, Each, before-each, before-none, import-none, unit-each, unit-count}

-- ---- what a label names, in an outline x whose first free row is c

-- row r is the first row of a line
pub record Within (x : List ℕ) (c r : ℕ) : Type 0 where
  pub some : 1 ≤ r
  pub below : r < c
  pub first : (row_at x (r - 1)).kind ≡ 21 → ⊥

pub record Named (x : List ℕ) (c kind number : ℕ) : Type 0 where
  pub kinds : (kind ≡ 1) ⊎ ((kind ≡ 3) ⊎ ((kind ≡ 5) ⊎ (kind ≡ 6)))
  pub within : (kind ≡ 1 → ⊥) → (kind ≡ 6 → ⊥) → Within x c number
  pub function : kind ≡ 3 → (row_at x number).kind ≡ 1
  pub place : kind ≡ 5 → (row_at x number).kind ≡ 1 → ⊥

abbrev Stay : List ℕ → List ℕ → ℕ → Type 0
Stay x z c = (i : ℕ) → i < c → row_at z i ≡ row_at x i

kind-stays : (x z : List ℕ) (c : ℕ) → Stay x z c → (i : ℕ) → i < c → (row_at z i).kind ≡ (row_at x i).kind
kind-stays x z c s i h = ap (λ (r : outlined.Row). r.kind) (s i h)

-- more rows change nothing
named-grown : (x z : List ℕ) (c d kind number : ℕ) → c ≤ d → Stay x z c → Named x c kind number → Named z d kind number
named-grown x z c d kind number l s h =
    let f = kind-stays x z c s in
    record {
      kinds = h.kinds;
      within = λ d e. let q : Within x c number = h.within d e in
          record {
            some = q.some;
            below = omega (arith, q.below);
            first = λ g. q.first (sym (f (number - 1) (omega (arith, q.below))) ∙ g);
          };
      function = λ e. f number (h.within (λ d. let z : ⊥ = omega arith in z) (λ d. let z : ⊥ = omega arith in z)).below ∙ h.function e;
      place = λ e g. h.place e (sym (f number (h.within (λ d. let z : ⊥ = omega arith in z) (λ d. let z : ⊥ = omega arith in z)).below) ∙ g);
    }

data-named : (x : List ℕ) (c kind number : ℕ) → kind ≡ 1 → Named x c kind number
data-named x c kind number e =
    record {
      kinds = inl e;
      within = λ d _. absurd (d e);
      function = λ g. let z : ⊥ = omega arith in absurd z;
      place = λ g _. let z : ⊥ = omega arith in z;
    }

import-named : (x : List ℕ) (c number : ℕ) → Named x c 6 number
import-named x c number =
    record {
      kinds = inr (inr (inr refl));
      within = λ _ d. absurd (d refl);
      function = λ g. let z : ⊥ = omega arith in absurd z;
      place = λ g _. let z : ⊥ = omega arith in z;
    }

row_named_lem : (x : List ℕ) (c k number : ℕ) → Within x c number → (row_at x number).kind ≡ k → Named x c (if_eq k 1 3 5) number
row_named_lem x c k number h q =
    either-eq (λ (kind : ℕ). Named x c kind number) k 1 _ _
    (λ e. record { kinds = inr (inl refl); within = λ _ _. h; function = λ _. q ∙ e; place = λ g _. let z : ⊥ = omega arith in z })
    (λ d. record { kinds = inr (inr (inl refl)); within = λ _ _. h; function = λ g. let z : ⊥ = omega arith in absurd z; place = λ _ g. d (sym q ∙ g) })

-- a statement's label: the rows before the one it names end before its token
abbrev Behind : List ℕ → ℕ → ℕ → ℕ → Type 0
Behind x token kind number = (kind ≡ 1 → ⊥) → (kind ≡ 6 → ⊥) → (m : ℕ) → 1 ≤ m → m < number → (row_at x m).next ≤ token

behind-grown : (x z : List ℕ) (c token kind number : ℕ) → Stay x z c → Named x c kind number → Behind x token kind number → Behind z token kind number
behind-grown x z c token kind number s n h d i m a b =
    let e = ap (λ (r : outlined.Row). r.next) (s m (let q = (n.within d i).below in omega (arith, q))) in
    omega (arith, e, h d i m a b)

-- the token of an import's label: the name of an import line, which the host lists; the row holds its mark
pub record Imported (t : List ℕ) (token number : ℕ) : Type 0 where
  pub at : ℕ
  pub is : token ≡ (unit_at t at).word + 1
  pub line : line_kind t (unit_at t at).word ≡ 36
  pub name : kind_at t token ≡ 3
  pub listed : host_at t token ≡ 0 → ⊥
  pub mark : number ≡ host_at t token

-- the token of a label row: a label, or an import's name
pub record Tokened (t : List ℕ) (token kind number : ℕ) : Type 0 where
  pub label : (kind ≡ 6 → ⊥) → kind_at t token ≡ 2
  pub import : kind ≡ 6 → Imported t token number

-- a label row: its token, whose name is not reserved
abbrev pub Labels : List ℕ → List ℕ → ℕ → ℕ → ℕ → ℕ → Type 0
Labels t x c token kind number = Tokened t token kind number × Free t token × Named x c kind number × Behind x token kind number

-- a label token's kind
label-sort : (k section : ℕ) → marks.label_kind k section ≡ 6 → ⊥
unfolding marks.label_kind
label-sort k section =
    either (λ (v : ℕ). v ≡ 6 → ⊥) section 2 _ _ (λ _. either-eq (λ (v : ℕ). v ≡ 6 → ⊥) k 1 _ _ (λ _ e. let z : ⊥ = omega arith in z) (λ _ e. let z : ⊥ = omega arith in z))
    (λ _ e. let z : ⊥ = omega arith in z)

label-tokened : (t : List ℕ) (token kind number : ℕ) → (kind ≡ 6 → ⊥) → kind_at t token ≡ 2 → Tokened t token kind number
label-tokened t token kind number d e = record { label = λ _. e; import = λ q. absurd (d q) }

-- ---- the parser's walk and that of the label rows, side by side

record Linked (t : List ℕ) (x : World) (m : Marking) : Type 0 where
  fits : UnitStepFits t x.table x.state
  few : x.state.labels ≤ x.state.at
  at : m.state.at ≡ x.state.at
  row : m.state.row ≡ x.state.count
  section : m.state.section ≡ x.state.section
  labels : m.state.labels ≡ x.state.labels
  long : length m.table ≡ 1024
  some : 1 ≤ x.state.count
  last : (row_at x.table (x.state.count - 1)).kind ≡ 21 → ⊥
  ends : (m : ℕ) → 1 ≤ m → m < x.state.count → (row_at x.table m).next ≤ x.state.at
  each : Each (Labels t x.table x.state.count) m.table x.state.labels

rows-some : (k : ℕ) → 1 ≤ k → k < 25 → 1 ≤ rows_of k
unfolding rows_of
rows-some k a b =
    either-eq (λ (r : ℕ). 1 ≤ r) k 0 _ _ (λ e. let z : ⊥ = omega arith in absurd z) (λ _.
    either-eq (λ (r : ℕ). 1 ≤ r) k 21 _ _ (λ _. omega arith) (λ _.
    either (λ (r : ℕ). 1 ≤ r) k 25 _ _ (λ _. omega arith) (λ g. let z : ⊥ = omega arith in absurd z)))

module _ (w : Width) (t : List ℕ) (n : ℕ) (x : World) (m : Marking) (h : Linked t x m) where
  abbrev u : Span
  u = unit_at t x.state.at

  abbrev k : ℕ
  k = line_kind t (unit_at t x.state.at).word

  abbrev on : World
  on = advance t n (unit_at t x.state.at) (line_kind t (unit_at t x.state.at).word) x

  abbrev unit : Marked
  unit = mark_unit t (unit_at t x.state.at) (line_kind t (unit_at t x.state.at).word) m.state m.table

  step_is : mark_step t m ≡ mark_on t u k m
  unfolding mark_step
  step_is = ap (λ (i : ℕ). mark_on t (unit_at t i) (line_kind t (unit_at t i).word) m) h.at

  module _ (c : none ≤ fault_in w t n u x) where
    clean : none ≤ unit_fault w t n u k (ground_in x.state (open_row x)) x.state
    clean = unit-clean w t n u x c

    room : x.state.count + rows_of k ≤ 1025
    room = omega (arith, clean-room w t n u k (ground_in x.state (open_row x)) x.state clean, h.fits.free)

    grown : Grown x (grow_by (rows_of k) t u k x) u k (rows_of k)
    grown = grow-grown t u k x (unit-order t x.state.at).2 room h.fits.long

    kinds-stay : (i : ℕ) → i < x.state.count → (row_at (grow_by (rows_of k) t u k x).table i).kind ≡ (row_at x.table i).kind
    kinds-stay = kind-stays x.table (grow_by (rows_of k) t u k x).table x.state.count grown.stays

    -- every row ends before the next unit
    ends_on : (m : ℕ) → 1 ≤ m → m < (grow_by (rows_of k) t u k x).state.count → (row_at (grow_by (rows_of k) t u k x).table m).next ≤ u.next
    ends_on m a b =
        let o = unit-order t x.state.at in
        elim (dec_lt m x.state.count) [
          | yes g ↦ omega (arith, ap (λ (r : outlined.Row). r.next) (grown.stays m g), h.ends m a g, o.0, o.1, o.2)
          | no g ↦ (grown.within m (omega arith) b).1
        ]

    -- those before the unit end before its labels
    new-behind : (i : ℕ) → u.first ≤ i → Behind (grow_by (rows_of k) t u k x).table i (marks.label_kind k m.state.section) (label_number m.state.section u.word m.state.row)
    unfolding marks.label_kind label_number
    new-behind i a d _ j b c =
        let o = unit-order t x.state.at in
        let s : m.state.section < 2 = elim (dec_lt m.state.section 2) [ yes g ↦ g | no g ↦ absurd (d (if_lt-no _ _ (omega arith))) ] in
        let e : j < x.state.count = omega (arith, if_lt-yes m.state.row u.word s, h.row) in
        omega (arith, ap (λ (r : outlined.Row). r.next) (grown.stays j e), h.ends j b e, o.0)

    -- at the source's end there are no labels
    plain-none : k ≡ 0 → import_labels t u k ≡ 0
    plain-none e =
        elim (ℕ_discrete (import_labels t u k) 0) [ yes q ↦ q | no d ↦ let z : ⊥ = omega (arith, (listed t u k d).kind) in absurd z ]

    end-plain : k ≡ 0 → unit ≡ marked m.state.labels m.table
    unfolding mark_unit
    end-plain e =
        elim (ℕ_discrete (kind_at t u.first) 2) [
          | yes f ↦ let z : ⊥ = omega (arith, line-some t u.word (labelled-line w t n u x.state (open_row x) clean f)) in absurd z
          | no f ↦ import-none t u k (mark_before t u k m.state m.table) (plain-none e) ∙ before-none t u k m.state m.table (unit-plain t x.state.at f)
        ]

    -- a new label
    new-named : kind_at t u.first ≡ 2 → Named (grow_by (rows_of k) t u k x).table (grow_by (rows_of k) t u k x).state.count (marks.label_kind k m.state.section) (label_number m.state.section u.word m.state.row)
    unfolding marks.label_kind label_number
    new-named e =
        elim (dec_lt m.state.section 2) [
          | no d ↦ data-named _ _ _ _ (if_lt-no _ _ (omega arith))
          | yes d ↦
              let q = labelled-row w t n u x.state (open_row x) clean e (omega (arith, h.section)) in
              let r : 1 ≤ rows_of k = rows-some k q.0 q.1 in
              let i : Within (grow_by (rows_of k) t u k x).table (grow_by (rows_of k) t u k x).state.count x.state.count =
              record {
                some = h.some;
                below = omega (arith, grown.count);
                first = λ g. h.last (sym (kinds-stay (x.state.count - 1) (omega (arith, h.some))) ∙ g);
              } in
              subst (λ (v : ℕ). Named (grow_by (rows_of k) t u k x).table (grow_by (rows_of k) t u k x).state.count v (if_lt m.state.section 2 m.state.row u.word)) (sym (if_lt-yes _ _ d))
              (subst (λ (v : ℕ). Named (grow_by (rows_of k) t u k x).table (grow_by (rows_of k) t u k x).state.count (if_eq k 1 3 5) v) (sym (if_lt-yes _ _ d ∙ h.row))
              (row_named_lem _ _ k x.state.count i (grown.first r)))
        ]

    old-each : Each (Labels t (grow_by (rows_of k) t u k x).table (grow_by (rows_of k) t u k x).state.count) m.table m.state.labels
    old-each j a b =
        let q = h.each j (omega (arith, h.labels)) b in
        (q.0, q.1, named-grown _ _ _ _ _ _ (omega (arith, grown.count)) grown.stays q.2, behind-grown _ _ _ _ _ _ grown.stays q.2 q.3)

    -- an import that is a label
    import-new : (import_labels t u k ≡ 0 → ⊥) → Labels t (grow_by (rows_of k) t u k x).table (grow_by (rows_of k) t u k x).state.count (u.word + 1) 6 (host_at t (u.word + 1))
    import-new d =
        let q : Listed t u k = listed t u k d in (
          record {
            label = λ z. absurd (z refl);
            import = λ _. record { at = x.state.at; is = refl; line = q.kind; name = q.name; listed = q.mark; mark = refl };
          },
          import-free w t n x c q.kind,
          import-named _ _ _,
          (λ _ z. absurd (z refl)),
        )

    before-new : Each (Labels t (grow_by (rows_of k) t u k x).table (grow_by (rows_of k) t u k x).state.count) (mark_before t u k m.state m.table).table (mark_before t u k m.state m.table).count
    before-new =
        elim (ℕ_discrete (kind_at t u.first) 2) [
          | yes e ↦ before-each t u k m.state m.table (Labels t (grow_by (rows_of k) t u k x).table (grow_by (rows_of k) t u k x).state.count) (unit-order t x.state.at).1 (λ i a b f. (label-tokened t i (marks.label_kind k m.state.section) _ (label-sort k m.state.section) f, unit-free w t n u k (ground_in x.state (open_row x)) x.state clean i a b f, new-named e, new-behind i a)) h.long old-each
          | no e ↦ subst (λ (y : Marked). Each (Labels t (grow_by (rows_of k) t u k x).table (grow_by (rows_of k) t u k x).state.count) y.table y.count) (sym (before-none t u k m.state m.table (unit-plain t x.state.at e))) old-each
        ]

    new-each : Each (Labels t (grow_by (rows_of k) t u k x).table (grow_by (rows_of k) t u k x).state.count) unit.table unit.count
    new-each = unit-each t u k m.state m.table (Labels t (grow_by (rows_of k) t u k x).table (grow_by (rows_of k) t u k x).state.count) h.long import-new before-new

    last_row : (row_at (grow_by (rows_of k) t u k x).table ((grow_by (rows_of k) t u k x).state.count - 1)).kind ≡ 21 → ⊥
    last_row e =
        elim (dec_lt (rows_of k) 1) [
          | no d ↦ grown.last (omega arith) e
          | yes d ↦
              let z : (grow_by (rows_of k) t u k x).state.count - 1 ≡ x.state.count - 1 = omega (arith, grown.count) in
              h.last (sym (ap (λ (i : ℕ). (row_at (grow_by (rows_of k) t u k x).table i).kind) z ∙ kinds-stay (x.state.count - 1) (omega (arith, h.some))) ∙ e)
        ]

    -- behind the unit
    linked_on : (k ≡ 0 → ⊥) → Linked t on (marking (marks_behind u k m.state unit.count) unit.table)
    unfolding advance join_state state_behind marks_behind
    linked_on d =
        let g : UnitStepGood t x.state (go on) = subst (UnitStepGood t x.state) (go_step w t n x c d) (unit-step-good w t n x.state x.table h.fits h.few) in
        let q : unit.count ≡ (labels_rule t n u x.state.labels).count + import_labels t u k =
        unit-count t n u k m.state m.table ∙ ap (λ (i : ℕ). (labels_rule t n u i).count + import_labels t u k) h.labels in
        record {
          fits = g.0.0;
          few = g.0.1;
          at = refl;
          row = omega (arith, h.row, grown.count);
          section = ap (section_behind k) h.section;
          labels = q;
          long = (unit_kept t u k m.state m.table h.long).0;
          some = omega (arith, h.some, grown.count);
          last = last_row;
          ends = ends_on;
          each = λ j a b. new-each j (omega arith) b;
        }

  mark-end : k ≡ 0 → mark_step t m ≡ stop unit.table
  unfolding mark_on
  mark-end e = step_is ∙ if_eq-yes _ _ e

  mark-go : (k ≡ 0 → ⊥) → mark_step t m ≡ go (marking (marks_behind u k m.state unit.count) unit.table)
  unfolding mark_on
  mark-go d = step_is ∙ if_eq-no _ _ d

-- an answer, its outline, and label rows
abbrev Answered : List ℕ → Verdict → List ℕ → List ℕ → Type 0
Answered t (Ok v) x y = Each (Labels t x v.count) y v.labels
Answered t (Err key) x y = Unit {0}

abbrev Rowed : List ℕ → Result → List ℕ → Type 0
Rowed t r y = Answered t r.verdict r.outline y

walks-linked : (w : Width) (t : List ℕ) (n fuel : ℕ) (x : World) (m : Marking) → Linked t x m
    → Rowed t (walk (unit_step w t n) (parse_result (refused none) []) fuel x) (walk (mark_step t) [] fuel m)
unfolding walk
walks-linked w t n zero x m h = tt
walks-linked w t n (suc fuel) x m h =
    elim (dec_lt (fault_in w t n (unit_at t x.state.at) x) none) [
      | yes l ↦ subst (λ (r : Result). Rowed t r (walk (mark_step t) [] (suc fuel) m)) (sym (walk-stop (unit_step w t n) (parse_result (refused none) []) fuel x _ (refused-step w t n x l))) tt
      | no l ↦
          let c : none ≤ fault_in w t n (unit_at t x.state.at) x = omega arith in
          elim (ℕ_discrete (line_kind t (unit_at t x.state.at).word) 0) [
            | yes e ↦
                subst (λ (r : Result). Rowed t r (walk (mark_step t) [] (suc fuel) m)) (sym (walk-stop (unit_step w t n) (parse_result (refused none) []) fuel x _ (end_step w t n x c e)))
                (subst (λ (y : List ℕ). Each (Labels t x.table x.state.count) y x.state.labels)
                (sym (walk-stop (mark_step t) [] fuel m _ (mark-end w t n x m h e) ∙ ap (λ (y : Marked). y.table) (end-plain w t n x m h c e))) h.each)
            | no d ↦
                subst (λ (r : Result). Rowed t r (walk (mark_step t) [] (suc fuel) m)) (sym (walk-go (unit_step w t n) (parse_result (refused none) []) fuel x _ (go_step w t n x c d)))
                (subst (λ (y : List ℕ). Rowed t (walk (unit_step w t n) (parse_result (refused none) []) fuel (advance t n (unit_at t x.state.at) (line_kind t (unit_at t x.state.at).word) x)) y)
                (sym (walk-go (mark_step t) [] fuel m _ (mark-go w t n x m h d)))
                (walks-linked w t n fuel _ _ (linked_on w t n x m h c d)))
          ]
    ]

edge_row : (row_at (zeros 8200) 0).kind ≡ 21 → ⊥
unfolding row_at token_word
edge_row e = let z : ⊥ = omega (arith, get_or-replicate {A = ℕ} 8200 0 0 0 (omega arith)) in z

begin-linked : (t : List ℕ) → length t ≡ 32768 → Linked t (world begin (zeros 8200)) (marking first_marks (zeros 1024))
begin-linked t e =
    record {
      fits = record { tokens = e; long = length-replicate {A = ℕ} 8200 0; near = omega arith; few = omega arith; free = omega arith };
      few = omega arith;
      at = refl;
      row = refl;
      section = refl;
      labels = refl;
      long = length-replicate {A = ℕ} 1024 0;
      some = omega arith;
      last = edge_row;
      ends = λ m a b. let z : ⊥ = omega arith in absurd z;
      each = λ j a b. let z : ⊥ = omega arith in absurd z;
    }

parse-rowed : (w : Width) (t : List ℕ) (n : ℕ) → length t ≡ 32768 → Rowed t (parse_of w t n) (label_rows t)
unfolding parse_of parse_from label_rows marks_from
parse-rowed w t n e = walks-linked w t n (suc (length t)) (world begin (zeros 8200)) (marking first_marks (zeros 1024)) (begin-linked t e)

-- ---- the outline

abbrev RowedBy : List ℕ → Parsed → List ℕ → List ℕ → Type 0
RowedBy t (Ok o) x y = Each (Labels t x (suc o.statements)) y o.labels
RowedBy t (Err r) x y = Unit {0}

answer-rowed : (t x y : List ℕ) (v : Verdict) → Answered t v x y → RowedBy t (answer_of v) x y
unfolding answer_of
answer-rowed t x y (Ok v) h =
    λ j a b. let q = h j a b in (q.0, q.1, named-grown x x v.count (suc (v.count - 1)) _ _ (omega arith) (λ i g. refl) q.2, q.3)
answer-rowed t x y (Err key) h = tt

outline-rowed : (w : Width) (t : List ℕ) (n : ℕ) → length t ≡ 32768 → RowedBy t (outline_of w t n).answer (outline_of w t n).rows (outline_of w t n).labels
unfolding outline_of
outline-rowed w t n e = answer-rowed t (parse_of w t n).outline (label_rows t) (parse_of w t n).verdict (parse-rowed w t n e)

-- what a label row of an accepted source says, in a view g of its c statements
pub record LabelRow (t y : List ℕ) (g : ℕ → Row) (c j : ℕ) : Type 0 where
  -- its token is a label
  pub token : (label_kind y j ≡ 6 → ⊥) → kind_at t (label_token y j) ≡ 2
  -- whose name is not reserved
  pub free : Free t (label_token y j)
  -- data, a function, a place or an import
  pub kinds : (label_kind y j ≡ 1) ⊎ ((label_kind y j ≡ 3) ⊎ ((label_kind y j ≡ 5) ⊎ (label_kind y j ≡ 6)))
  -- what it names, if neither data nor an import, is a statement, and not the test of an else-if line
  pub below : (label_kind y j ≡ 1 → ⊥) → (label_kind y j ≡ 6 → ⊥) → label_statement y j < c
  pub first : (label_kind y j ≡ 1 → ⊥) → (label_kind y j ≡ 6 → ⊥) → follows_jump g (label_statement y j) ≡ false
  pub function : label_kind y j ≡ 3 → (g (label_statement y j)).kind ≡ 1
  pub place : label_kind y j ≡ 5 → (g (label_statement y j)).kind ≡ 1 → ⊥
  -- an import's token is its name, and its third word the mark of the host's entry
  pub imported : label_kind y j ≡ 6 → Imported t (label_token y j) (get_or y (j * 4 + 2) 0)

-- in each case a name stands there, without a mark before it
pub label-name : (t y : List ℕ) (g : ℕ → Row) (c j : ℕ) → LabelRow t y g c j → (kind_at t (label_token y j) ≡ 2) ⊎ (kind_at t (label_token y j) ≡ 3)
label-name t y g c j h =
    elim (ℕ_discrete (label_kind y j) 6) [ yes e ↦ inr (h.imported e).name | no d ↦ inl (h.token d) ]

module _ (t x y : List ℕ) (c j : ℕ) (few : c ≤ 1024) where
  abbrev view : ℕ → Row
  view = statement.row_at (skeleton_of x c)

  view-is : (r : ℕ) → Within x (suc c) r → (view (r - 1)).kind ≡ (row_at x r).kind
  view-is r h = let z : r - 1 + 1 ≡ r = omega (arith, h.some) in kind-is x c few (r - 1) (omega (arith, h.some, h.below)) ∙ ap (λ (i : ℕ). (row_at x i).kind) z

  view_first : (r : ℕ) → Within x (suc c) r → follows_jump view (r - 1) ≡ false
  unfolding follows_jump
  view_first r h = by (r - 1) refl
    where
      by : (i : ℕ) → r - 1 ≡ i → follows_jump view i ≡ false
      by zero e = refl
      by (suc i) e =
          let z : i + 1 ≡ r - 1 = omega arith in
          ne_eqb (view i).kind 21 (λ q. h.first (ap (λ (v : ℕ). (row_at x v).kind) (sym z) ∙ sym (kind-is x c few i (omega (arith, h.below))) ∙ q))

  row-good : RowHas (Labels t x (suc c)) y j → LabelRow t y view c j
  unfolding label_token label_kind label_statement
  row-good h =
      record {
        token = h.0.label;
        free = h.1;
        kinds = h.2.kinds;
        below = λ d i. let q : Within x (suc c) (get_or y (j * 4 + 2) 0) = h.2.within d i in omega (arith, q.some, q.below);
        first = λ d i. view_first (get_or y (j * 4 + 2) 0) (h.2.within d i);
        function = λ e. view-is (get_or y (j * 4 + 2) 0) (h.2.within (λ d. let z : ⊥ = omega arith in z) (λ d. let z : ⊥ = omega arith in z)) ∙ h.2.function e;
        place = λ e g. h.2.place e (sym (view-is (get_or y (j * 4 + 2) 0) (h.2.within (λ d. let z : ⊥ = omega arith in z) (λ d. let z : ⊥ = omega arith in z))) ∙ g);
        imported = h.0.import;
      }

module _ (w : Width) (t : List ℕ) (n c l : ℕ) (x y : List ℕ) (long : length t ≡ 32768) (h : outline_of w t n ≡ parsed (answer.accepted c l) x y) (j : ℕ) (g : j < l) where
  counts : (c ≤ 1024) × (l ≤ 256)
  counts = accepted-counts w t n c l long (ap (λ (o : Outlined). o.answer) h)

  has : RowHas (Labels t x (suc c)) y j
  has = subst (λ (o : Outlined). RowedBy t o.answer o.rows o.labels) h (outline-rowed w t n long) j g (omega (arith, counts.1))

  -- the label rows of an accepted source
  pub label-rows : LabelRow t y (statement.row_at (skeleton_of x c)) c j
  label-rows = row-good t x y c j counts.0 has

  -- the statements before the one that a label names end before the label
  pub label-behind : (label_kind y j ≡ 1 → ⊥) → (label_kind y j ≡ 6 → ⊥) → (m : ℕ) → m < label_statement y j → end_token (skeleton_of x c) m ≤ label_token y j
  unfolding label_token label_kind label_statement
  label-behind d i m a =
      let q : Within x (suc c) (get_or y (j * 4 + 2) 0) = has.2.within d i in
      omega (arith, end_is w t n c l x y long h m (omega (arith, q.below)), has.3 d i (m + 1) (omega arith) (omega arith))
