-- A source's lines break no rule exactly where the parser finds no fault: the state in which it judges a line is what specs/Lines
-- says of the lines before it, as long as those break no rule.
-- Assumes nothing.
use mathlib.Core.Path.{◌≡◌, refl, sym, ◌∙◌, ap, subst}
use mathlib.Core.Bool.{Bool, true, false, not}
use mathlib.Core.List.{List, [], ◌∷◌}
use mathlib.Core.Logic.{◌↔◌}
use Prim.Native.Nat.{ℕ, zero, suc, ◌+◌, ◌*◌, ◌-◌, ◌≤◌, ◌<◌, min}
use native.Mathlib.Decide.{dec_lt, ℕ_discrete}
use native.Mathlib.Omega.{arith}
use lib.Dec.{T, eqb, leb}
use lib.ListN.{length, length-replicate}
use borrow.Author.Tests.{leb-true, le-leb}
use Rattle.base_prelude.specs.Choice.{if_lt, if_eq, if_true}
use Rattle.base_prelude.specs.Fault.{none, least_of}
use Rattle.base_prelude.specs.Lists.{zeros, is_among}
use Rattle.base_prelude.proofs.Choice.{either, either-eq, either_true, if_lt-yes, if_lt-no, if_eq-yes, if_eq-no, if_true-yes, if_true-no, true-false}
use Rattle.base_prelude.proofs.Table.{under, under_at}
use Rattle.base_limits.specs.declared.Width.{Width}
use Rattle.lang_kinds.specs.Nesting.{statement_in, refused_in, stands_in, rows_of, enters, leaves, ground_of, kind_of_word}
use Rattle.lang_kinds.specs.Standing.{stands_on}
use Rattle.lang_kinds.proofs.Standing.{stands-range}
use Rattle.lang_kinds.proofs.RowCounts.{rows-two}
use Rattle.parse_lines.specs.Tokens.{kind_at, word_at, host_at, key_at}
use Rattle.parse_lines.specs.Units.{unit_at}
use Rattle.parse_lines.specs.Lines.{line_kind}
use Rattle.parse_lines.specs.declared.Span.{Span}
use Rattle.parse_lines.proofs.Keys.{no_key}
use Rattle.parse_shapes.specs.Shapes.{operand_count, is_name, shape_fits}
use Rattle.parse_rules.specs.Rules.{shape_rule, left_rule, tokens_rule, list_rule, reserved_label, label_limit, label_key, labelled, label_step, labels_from, labels_rule}
use Rattle.parse_rules.specs.declared.Labelled.{Labelled}
use Rattle.parse_units.specs.Outline.{row_at, put_row, row_in, behind}
use Rattle.parse_units.specs.Places.{ground_in, line_on, may_label, label_rule, place_rule, import_labels, import_rule, room_rule, locals_rule, depth_rule, line_faults, limit_faults, unit_fault}
use Rattle.parse_units.specs.Parse.{World, world, begin, put_state, put_kind, grow_two, grow_by, locals_behind, depth_behind, section_behind, state_behind, join_state, advance, open_row, fault_in}
use Rattle.parse_units.specs.declared.Row.{Row}
use Rattle.parse_units.specs.declared.State.{State}
use Rattle.parse_units.proofs.Bounds.{unit-order, unit-clean, import-ground}
use Rattle.parse_verdict.specs.Verdict.{kind_in, fault_at, next_world, faults_from, all_faults, All, Clean}
use Rattle.parse_verdict.proofs.Decided.{least-none, none-all}
use Rattle.parse_verdict.proofs.Decided as decided
use Rattle.thm_outline.proofs.Puts.{length-put}
use Rattle.thm_outline.proofs.Words.{Says, line-says, test-kind}
use Rattle.thm_outline.proofs.Unit.{line_low}
use Rattle.thm_acceptance.specs.Lines.{Line, line_from, lines_from, lines_of, EachFrom, EachLine, statement_kinds, statements_before, labels_among, labels_on, label_count, labels_before, Level, level, opened_by, opened_by_all, open_before, locals_in, blocks_in, section_before, ground_among, ground_before, kind_on}
use Rattle.thm_acceptance.specs.LineRules.{is_reserved, Shaped, SubstitutesKnown, NamesFree, Placed, MayBeLabelled, LabelsFree, NotLeftOut, ImportBetween, NoFrameSize, FewStatements, FewLabels, FewImports, FewLocals, FewBlocks, FewArguments}
use Rattle.thm_acceptance.proofs.LineRules.{reserved-by, by-reserved, shape-by, by_shape, TokensFree, tokens-by, by-tokens, list-by, by-list}
use Rattle.thm_acceptance.proofs.Opens.{implies, imply, leaves-high, Link, Chain, closed, within, Somewhere, nowhere, somewhere, where-is, Frame, LocalsAre, Needs, chain_more, Counted, Head, Fit, next-counted, else-if-counted}

-- ---- a rule that finds nothing

-- ---- labels

module _ (t : List ℕ) (n : ℕ) where
  limit-by : (i c : ℕ) → none ≤ label_limit t n i c → c < 256
  unfolding label_limit
  limit-by i c = either (λ (x : ℕ). none ≤ x → c < 256) c 256 _ _ (λ h _. h) (λ _ h. no_key t n i 14 (omega arith) h)

  by-limit : (i c : ℕ) → c < 256 → none ≤ label_limit t n i c
  unfolding label_limit
  by-limit i c h = subst (λ (x : ℕ). none ≤ x) (sym (if_lt-yes none (key_at t n i 14) h)) (omega arith)

  key-parts : (i c : ℕ) → label_key t n i c ≡ min (reserved_label t n i) (label_limit t n i c)
  unfolding label_key
  key-parts i c = refl

  -- so many tokens from i on, c labels before them, f the least fault so far
  abbrev Good : ℕ → ℕ → ℕ → Type 0
  Good left i c = ((j : ℕ) → i ≤ j → j < i + left → kind_at t j ≡ 2 → none ≤ reserved_label t n j) × (c + labels_among left t i ≤ 256)

  step_label : (i : ℕ) (x : Labelled) → kind_at t i ≡ 2 → label_step t n i x ≡ labelled (min x.fault (label_key t n i x.count)) (x.count + 1)
  unfolding label_step
  step_label i x e = if_eq-yes _ _ e

  step_other : (i : ℕ) (x : Labelled) → (kind_at t i ≡ 2 → ⊥) → label_step t n i x ≡ x
  unfolding label_step
  step_other i x e = if_eq-no _ _ e

  among-label : (left i : ℕ) → kind_at t i ≡ 2 → labels_among (suc left) t i ≡ suc (labels_among left t (i + 1))
  unfolding labels_among
  among-label left i e = if_eq-yes _ _ e

  among-other : (left i : ℕ) → (kind_at t i ≡ 2 → ⊥) → labels_among (suc left) t i ≡ labels_among left t (i + 1)
  unfolding labels_among
  among-other left i e = if_eq-no _ _ e

  among_none : (i : ℕ) → labels_among 0 t i ≡ 0
  unfolding labels_among
  among_none i = refl

  from_more : (left i : ℕ) (x : Labelled) → labels_from (suc left) t n i x ≡ labels_from left t n (i + 1) (label_step t n i x)
  unfolding labels_from
  from_more left i x = refl

  from-none : (i : ℕ) (x : Labelled) → labels_from 0 t n i x ≡ x
  unfolding labels_from
  from-none i x = refl

  count-from : (left i : ℕ) (x : Labelled) → (labels_from left t n i x).count ≡ x.count + labels_among left t i
  count-from zero i x = ap (λ (y : Labelled). y.count) (from-none i x) ∙ omega (arith, among_none i)
  count-from (suc left) i x =
      ap (λ (y : Labelled). y.count) (from_more left i x) ∙ count-from left (i + 1) (label_step t n i x)
      ∙ elim (ℕ_discrete (kind_at t i) 2) [
        | yes e ↦ omega (arith, ap (λ (y : Labelled). y.count) (step_label i x e), among-label left i e)
        | no e ↦ omega (arith, ap (λ (y : Labelled). y.count) (step_other i x e), among-other left i e)
      ]

  -- a fault found is kept
  step_kept : (i : ℕ) (x : Labelled) → none ≤ (label_step t n i x).fault → none ≤ x.fault
  step_kept i x h =
      elim (ℕ_discrete (kind_at t i) 2) [
        | yes e ↦ omega (arith, ap (λ (y : Labelled). y.fault) (step_label i x e))
        | no e ↦ omega (arith, ap (λ (y : Labelled). y.fault) (step_other i x e))
      ]

  from-kept : (left i : ℕ) (x : Labelled) → none ≤ (labels_from left t n i x).fault → none ≤ x.fault
  from-kept zero i x h = subst (λ (y : Labelled). none ≤ y.fault) (from-none i x) h
  from-kept (suc left) i x h =
      step_kept i x (from-kept left (i + 1) (label_step t n i x) (subst (λ (y : Labelled). none ≤ y.fault) (from_more left i x) h))

  -- what a label's own fault says
  label-good : (i : ℕ) (x : Labelled) → kind_at t i ≡ 2 → none ≤ (label_step t n i x).fault
      → (none ≤ x.fault) × (none ≤ reserved_label t n i) × (x.count < 256) × ((label_step t n i x).count ≡ x.count + 1)
  label-good i x e f =
      let q : (label_step t n i x).fault ≡ min x.fault (label_key t n i x.count) = ap (λ (y : Labelled). y.fault) (step_label i x e) in (
        omega arith,
        omega (arith, key-parts i x.count),
        limit-by i x.count (omega (arith, key-parts i x.count)),
        ap (λ (y : Labelled). y.count) (step_label i x e),
      )

  good-label : (left i c d : ℕ) → kind_at t i ≡ 2 → none ≤ reserved_label t n i → d ≡ c + 1 → Good left (i + 1) d → Good (suc left) i c
  good-label left i c d e r q g = (
    λ j a b p. elim (ℕ_discrete i j) [
      | yes z ↦ subst (λ (v : ℕ). none ≤ reserved_label t n v) z r
      | no z ↦ g.0 j (omega arith) (omega arith) p
    ],
    omega (arith, g.1, among-label left i e),
  )

  good-other : (left i c : ℕ) → (kind_at t i ≡ 2 → ⊥) → Good left (i + 1) c → Good (suc left) i c
  good-other left i c e g = (
    λ j a b p. elim (ℕ_discrete i j) [
      | yes z ↦ absurd (e (ap (kind_at t) z ∙ p))
      | no z ↦ g.0 j (omega arith) (omega arith) p
    ],
    omega (arith, g.1, among-other left i e),
  )

  -- the least fault is none exactly where no label has one
  fault-good : (left i : ℕ) (x : Labelled) → none ≤ (labels_from left t n i x).fault → x.count ≤ 256 → Good left i x.count
  fault-good zero i x h l = (λ j a b. let z : ⊥ = omega arith in absurd z, omega (arith, among_none i))
  fault-good (suc left) i x h l =
      let g : none ≤ (labels_from left t n (i + 1) (label_step t n i x)).fault = subst (λ (y : Labelled). none ≤ y.fault) (from_more left i x) h in
      elim (ℕ_discrete (kind_at t i) 2) [
        | yes e ↦ let a = label-good i x e (from-kept left (i + 1) (label_step t n i x) g) in
            good-label left i x.count (label_step t n i x).count e a.1 a.3 (fault-good left (i + 1) (label_step t n i x) g (omega (arith, a.2, a.3)))
        | no e ↦ good-other left i x.count e
            (fault-good left (i + 1) x (subst (λ (y : Labelled). none ≤ (labels_from left t n (i + 1) y).fault) (step_other i x e) g) l)
      ]

  less-label : (left i c : ℕ) → kind_at t i ≡ 2 → Good (suc left) i c → (none ≤ reserved_label t n i) × (c < 256) × Good left (i + 1) (c + 1)
  less-label left i c e g = (
    g.0 i (omega arith) (omega arith) e,
    omega (arith, g.1, among-label left i e),
    (λ j a b p. g.0 j (omega arith) (omega arith) p, omega (arith, g.1, among-label left i e)),
  )

  less_other : (left i c : ℕ) → (kind_at t i ≡ 2 → ⊥) → Good (suc left) i c → Good left (i + 1) c
  less_other left i c e g = (λ j a b p. g.0 j (omega arith) (omega arith) p, omega (arith, g.1, among-other left i e))

  good-fault : (left i : ℕ) (x : Labelled) → none ≤ x.fault → Good left i x.count → none ≤ (labels_from left t n i x).fault
  good-fault zero i x f g = subst (λ (y : Labelled). none ≤ y.fault) (sym (from-none i x)) f
  good-fault (suc left) i x f g =
      subst (λ (y : Labelled). none ≤ y.fault) (sym (from_more left i x))
      (elim (ℕ_discrete (kind_at t i) 2) [
        | yes e ↦ let a = less-label left i x.count e g in
            let c : (label_step t n i x).count ≡ x.count + 1 = ap (λ (y : Labelled). y.count) (step_label i x e) in
            good-fault left (i + 1) (label_step t n i x)
            (omega (arith, ap (λ (y : Labelled). y.fault) (step_label i x e), key-parts i x.count, a.0, by-limit i x.count a.1))
            (subst (Good left (i + 1)) (sym c) a.2)
        | no e ↦ subst (λ (y : Labelled). none ≤ (labels_from left t n (i + 1) y).fault) (sym (step_other i x e)) (good-fault left (i + 1) x f (less_other left i x.count e g))
      ])

-- ---- rules, both ways

import-one : (t : List ℕ) (u : Span) (k : ℕ) → import_labels t u k ≤ 1
unfolding import_labels
import-one t u k =
    either-eq (λ (x : ℕ). x ≤ 1) k 36 _ _
    (λ _. either_true (λ (x : ℕ). x ≤ 1) (is_name t (u.word + 1)) _ _ (λ _. either-eq (λ (x : ℕ). x ≤ 1) (host_at t (u.word + 1)) 0 _ _ (λ _. omega arith) (λ _. omega arith)) (λ _. omega arith))
    (λ _. omega arith)

import-none : (t : List ℕ) (u : Span) (k : ℕ) → (k ≡ 36 → ⊥) → import_labels t u k ≡ 0
unfolding import_labels
import-none t u k d = if_eq-no _ _ d

-- an import between functions, and every other line, has its kind where it stands
pub on-is : (g k : ℕ) → (k ≡ 36 → g ≡ 1) → line_on g k ≡ k
unfolding line_on
on-is g k f = either-eq (λ (x : ℕ). x ≡ k) k 36 _ _ (λ e. if_eq-yes _ _ (f e)) (λ _. refl)

module _ (t : List ℕ) (n : ℕ) (u : Span) (k : ℕ) where
  label-by : (g : ℕ) → none ≤ label_rule t n u g → kind_at t u.first ≡ 2 → may_label g (kind_at t u.word) (word_at t u.word) ≡ true
  unfolding label_rule
  label-by g h e =
      either_true (λ (x : ℕ). none ≤ x → may_label g (kind_at t u.word) (word_at t u.word) ≡ true) (may_label g (kind_at t u.word) (word_at t u.word)) _ _
      (λ q _. q) (λ _ z. no_key t n u.first 8 (omega arith) z)
      (subst (λ (x : ℕ). none ≤ x) (if_eq-yes _ _ e) h)

  by-label : (g : ℕ) → (kind_at t u.first ≡ 2 → may_label g (kind_at t u.word) (word_at t u.word) ≡ true) → none ≤ label_rule t n u g
  unfolding label_rule
  by-label g f =
      either-eq (λ (x : ℕ). none ≤ x) (kind_at t u.first) 2 _ _ (λ e. subst (λ (x : ℕ). none ≤ x) (sym (if_true-yes _ _ (f e))) (omega arith)) (λ _. omega arith)

  place-by : (g : ℕ) → none ≤ place_rule t n u k g → stands_on g k ≡ true
  unfolding place_rule
  place-by g = either_true (λ (x : ℕ). none ≤ x → stands_on g k ≡ true) (stands_on g k) _ _ (λ e _. e) (λ _ h. no_key t n u.word 8 (omega arith) h)

  by_place : (g : ℕ) → stands_on g k ≡ true → none ≤ place_rule t n u k g
  unfolding place_rule
  by_place g e = subst (λ (x : ℕ). none ≤ x) (sym (if_true-yes _ _ e)) (omega arith)

  left_by : none ≤ left_rule t n u k → k ≡ 34 → ⊥
  unfolding left_rule
  left_by h e = no_key t n u.word 9 (omega arith) (subst (λ (x : ℕ). none ≤ x) (if_eq-yes _ _ e) h)

  by_left : (k ≡ 34 → ⊥) → none ≤ left_rule t n u k
  unfolding left_rule
  by_left d = subst (λ (x : ℕ). none ≤ x) (sym (if_eq-no _ _ d)) (omega arith)

  room_by : (c : ℕ) → none ≤ room_rule t n u k c → rows_of k ≤ 1025 - c
  unfolding room_rule
  room_by c = either (λ (x : ℕ). none ≤ x → rows_of k ≤ 1025 - c) (1025 - c) (rows_of k) _ _ (λ _ h. no_key t n u.word 14 (omega arith) h) (λ h _. h)

  by-room : (c : ℕ) → rows_of k ≤ 1025 - c → none ≤ room_rule t n u k c
  unfolding room_rule
  by-room c h = subst (λ (x : ℕ). none ≤ x) (sym (if_lt-no (key_at t n u.word 14) none h)) (omega arith)

  locals-by : (v : ℕ) → none ≤ locals_rule t n u k v → k ≡ 5 → v < 64
  unfolding locals_rule
  locals-by v h e =
      either (λ (x : ℕ). none ≤ x → v < 64) v 64 _ _ (λ l _. l) (λ _ z. no_key t n u.word 14 (omega arith) z) (subst (λ (x : ℕ). none ≤ x) (if_eq-yes _ _ e) h)

  by-locals : (v : ℕ) → (k ≡ 5 → v < 64) → none ≤ locals_rule t n u k v
  unfolding locals_rule
  by-locals v f =
      either-eq (λ (x : ℕ). none ≤ x) k 5 _ _ (λ e. subst (λ (x : ℕ). none ≤ x) (sym (if_lt-yes none (key_at t n u.word 14) (f e))) (omega arith)) (λ _. omega arith)

  depth-by : (v : ℕ) → none ≤ depth_rule t n u k v → k ≡ 3 → v < 16
  unfolding depth_rule
  depth-by v h e =
      either (λ (x : ℕ). none ≤ x → v < 16) v 16 _ _ (λ l _. l) (λ _ z. no_key t n u.word 14 (omega arith) z) (subst (λ (x : ℕ). none ≤ x) (if_eq-yes _ _ e) h)

  by-depth : (v : ℕ) → (k ≡ 3 → v < 16) → none ≤ depth_rule t n u k v
  unfolding depth_rule
  by-depth v f =
      either-eq (λ (x : ℕ). none ≤ x) k 3 _ _ (λ e. subst (λ (x : ℕ). none ≤ x) (sym (if_lt-yes none (key_at t n u.word 14) (f e))) (omega arith)) (λ _. omega arith)

  -- the label that an import is
  import-by : (c : ℕ) → none ≤ import_rule t n u k c → c ≤ 256 → c + import_labels t u k ≤ 256
  unfolding import_rule
  import-by c h l =
      let i : import_labels t u k ≤ 1 = import-one t u k in
      either-eq (λ (x : ℕ). none ≤ x → c + import_labels t u k ≤ 256) (import_labels t u k) 0 _ _ (λ e _. omega (arith, e))
      (λ _ z. omega (arith, limit-by t n (u.word + 1) c z, i)) h

  by-import : (c : ℕ) → c + import_labels t u k ≤ 256 → none ≤ import_rule t n u k c
  unfolding import_rule
  by-import c h =
      either-eq (λ (x : ℕ). none ≤ x) (import_labels t u k) 0 _ _ (λ _. omega arith) (λ d. by-limit t n (u.word + 1) c (omega (arith, d)))

  labels-rule : (c : ℕ) → labels_rule t n u c ≡ labels_from (u.word - u.first) t n u.first (labelled none c)
  unfolding labels_rule
  labels-rule c = refl

  labels-by : (c : ℕ) → c ≤ 256 → none ≤ (labels_rule t n u c).fault → Good t n (u.word - u.first) u.first c
  labels-by c l h =
      fault-good t n (u.word - u.first) u.first (labelled none c) (subst (λ (y : Labelled). none ≤ y.fault) (labels-rule c) h) l

  by-labels : (c : ℕ) → Good t n (u.word - u.first) u.first c → none ≤ (labels_rule t n u c).fault
  by-labels c g =
      subst (λ (y : Labelled). none ≤ y.fault) (sym (labels-rule c)) (good-fault t n (u.word - u.first) u.first (labelled none c) (omega arith) g)

  labels-count : (c : ℕ) → (labels_rule t n u c).count ≡ c + labels_among (u.word - u.first) t u.first
  labels-count c = ap (λ (y : Labelled). y.count) (labels-rule c) ∙ count-from t n (u.word - u.first) u.first (labelled none c)

-- all rules of a unit
record Rules (w : Width) (t : List ℕ) (n : ℕ) (u : Span) (k g : ℕ) (s : State) : Type 0 where
  pub label : none ≤ label_rule t n u g
  pub labels : none ≤ (labels_rule t n u s.labels).fault
  pub shape : none ≤ shape_rule w t n u k
  pub place : none ≤ place_rule t n u k g
  pub left : none ≤ left_rule t n u k
  pub import : none ≤ import_rule t n u k (labels_rule t n u s.labels).count
  pub room : none ≤ room_rule t n u k s.count
  pub locals : none ≤ locals_rule t n u k s.locals
  pub depth : none ≤ depth_rule t n u k s.depth
  pub tokens : none ≤ tokens_rule t n u k
  pub list : none ≤ list_rule t n u k

least-clean : (ks : List ℕ) → none ≤ least_of ks → Clean ks
least-clean ks h = none-all ks (omega (arith, least-none ks))

module _ (w : Width) (t : List ℕ) (n : ℕ) (u : Span) (k g : ℕ) (s : State) where
  line-part : none ≤ unit_fault w t n u k g s → Clean (line_faults w t n u k g s)
  unfolding unit_fault
  line-part h = least-clean (line_faults w t n u k g s) (omega arith)

  limit-part : none ≤ unit_fault w t n u k g s → Clean (limit_faults t n u k s)
  unfolding unit_fault
  limit-part h = least-clean (limit_faults t n u k s) (omega arith)

  fault-rules : none ≤ unit_fault w t n u k g s → Rules w t n u k g s
  unfolding line_faults limit_faults
  fault-rules h =
      let a = line-part h in
      let b = limit-part h in
      record {
        label = a.0;
        labels = a.1.0;
        shape = a.1.1.0;
        place = a.1.1.1.0;
        left = a.1.1.1.1.0;
        import = a.1.1.1.1.1.0;
        room = b.0;
        locals = b.1.0;
        depth = b.1.1.0;
        tokens = b.1.1.1.0;
        list = b.1.1.1.1.0;
      }

  rules-fault : Rules w t n u k g s → none ≤ unit_fault w t n u k g s
  unfolding unit_fault line_faults limit_faults
  rules-fault r =
      let a : none ≤ least_of (label_rule t n u g ∷ (labels_rule t n u s.labels).fault ∷ shape_rule w t n u k ∷ place_rule t n u k g ∷ left_rule t n u k ∷ import_rule t n u k (labels_rule t n u s.labels).count ∷ []) = decided.all_none _ (r.label, (r.labels, (r.shape, (r.place, (r.left, (r.import, tt)))))) in
      let b : none ≤ least_of (room_rule t n u k s.count ∷ locals_rule t n u k s.locals ∷ depth_rule t n u k s.depth ∷ tokens_rule t n u k ∷ list_rule t n u k ∷ []) = decided.all_none _ (r.room, (r.locals, (r.depth, (r.tokens, (r.list, tt))))) in
      omega arith

-- ---- a line, and the state before it

-- no rule is broken by a line
pub record LineFine (w : Width) (t : List ℕ) (before : List Line) (x : Line) : Type 0 where
  pub shaped : Shaped w t before x
  pub substitutes : SubstitutesKnown w t before x
  pub names : NamesFree w t before x
  pub placed : Placed w t before x
  pub labelled : MayBeLabelled w t before x
  pub named : LabelsFree w t before x
  pub kept : NotLeftOut w t before x
  pub between : ImportBetween w t before x
  pub sizes : NoFrameSize w t before x
  pub statements : FewStatements w t before x
  pub labels : FewLabels w t before x
  pub imports : FewImports w t before x
  pub locals : FewLocals w t before x
  pub blocks : FewBlocks w t before x
  pub arguments : FewArguments w t before x

-- the parser's state is what the lines before it say: what is open, its rows, the section, locals and blocks, statements and labels
pub record Agree (t : List ℕ) (before : List Line) (y : World) : Type 0 where
  pub long : length y.table ≡ 8200
  pub low : y.state.top < y.state.count
  pub chain : Chain y.table y.state.top (open_before t before)
  pub count : y.state.count ≡ statements_before before + 1
  pub free : y.state.count ≤ 1025
  pub section : y.state.section ≡ section_before before
  pub counted : Counted (open_before t before) y.state.locals y.state.depth
  pub labels : y.state.labels ≡ labels_before t before
  pub few : labels_before t before ≤ 256

section-low : (before : List Line) → section_before before ≤ 3
unfolding section_before
section-low [] = omega arith
section-low (x ∷ before) =
    let r : section_before before ≤ 3 = section-low before in
    either-eq (λ (g : ℕ). g ≤ 3) x.kind 25 _ _ (λ _. omega arith) (λ _.
    either-eq (λ (g : ℕ). g ≤ 3) x.kind 26 _ _ (λ _. omega arith) (λ _.
    either-eq (λ (g : ℕ). g ≤ 3) x.kind 32 _ _ (λ _. omega arith) (λ _.
    either-eq (λ (g : ℕ). g ≤ 3) x.kind 33 _ _ (λ _. omega arith) (λ _. r))))

ground-some : (rows : List ℕ) (m section : ℕ) (os : List Level) → Somewhere rows m os → if_eq m 0 section (ground_of (row_at rows m).kind) ≡ ground_among section os
unfolding ground_among
ground-some rows m section os (nowhere z) = if_eq-yes _ _ z
ground-some rows m section os (somewhere o bs r e k ch) =
    if_eq-no _ _ (λ z. let y : ⊥ = omega (arith, k.some) in y) ∙ ap (λ (x : Row). ground_of x.kind) e ∙ k.ground

module _ (t : List ℕ) (before : List Line) (y : World) (a : Agree t before y) where
  pub ground-is : ground_in y.state (open_row y) ≡ ground_before t before
  unfolding ground_in open_row ground_before
  ground-is =
      ap (λ (g : ℕ). if_eq y.state.top 0 g (ground_of (row_at y.table y.state.top).kind)) a.section
      ∙ ground-some y.table y.state.top (section_before before) (open_before t before) (where-is y.table y.state.top (open_before t before) a.chain)

-- what is open where a kind stands
ground-empty : (section : ℕ) (os : List Level) → os ≡ [] → ground_among section os ≡ section
unfolding ground_among
ground-empty section os e = ap (ground_among section) e

stands-1 : ((stands_in 1).start ≡ 1) × ((stands_in 1).end ≡ 2)
unfolding stands_in statement_in if_eq if_lt
stands-1 = (refl, refl)

stands-2 : ((stands_in 2).start ≡ 4) × ((stands_in 2).end ≡ 5)
unfolding stands_in statement_in if_eq if_lt
stands-2 = (refl, refl)

stands-4 : ((stands_in 4).start ≡ 5) × ((stands_in 4).end ≡ 6)
unfolding stands_in statement_in if_eq if_lt
stands-4 = (refl, refl)

stands-5 : ((stands_in 5).start ≡ 4) × ((stands_in 5).end ≡ 6)
unfolding stands_in statement_in if_eq if_lt
stands-5 = (refl, refl)

-- from kind a on, rows stand on grounds from g on
high_from : ℕ → ℕ → ℕ → Bool
high_from a g k = implies (leb a k) (leb g (stands_in k).start)

high-from : (a g k : ℕ) → T (under (high_from a g) 23) → a ≤ k → k < 23 → g ≤ (stands_in k).start
unfolding high_from
high-from a g k t l h = leb-true g _ (imply (leb a k) (leb g (stands_in k).start) (under_at (high_from a g) 23 k t h) (le-leb a k l))

rows-high : T (under (high_from 2 4) 23) × T (under (high_from 20 6) 23)
unfolding high_from stands_in statement_in if_eq if_lt
rows-high = (tt, tt)

row-high : (k : ℕ) → 2 ≤ k → k < 23 → 4 ≤ (stands_in k).start
row-high k l h = high-from 2 4 k rows-high.0 l h

arm-high : (k : ℕ) → 20 ≤ k → k < 23 → 6 ≤ (stands_in k).start
arm-high k l h = high-from 20 6 k rows-high.1 l h

low-at : (k j : ℕ) → k ≡ j → (stands_in k).start ≡ (stands_in j).start
low-at k j e = ap (λ (i : ℕ). (stands_in i).start) e

high-at : (k j : ℕ) → k ≡ j → (stands_in k).end ≡ (stands_in j).end
high-at k j e = ap (λ (i : ℕ). (stands_in i).end) e

module _ (rows : List ℕ) (m section k : ℕ) (low : section ≤ 3) where
  alone-is : (os : List Level) → Somewhere rows m os → ground_among section os < 2 → os ≡ []
  unfolding ground_among
  alone-is os (nowhere z) l = refl
  alone-is os (somewhere o bs r e x ch) l = let z : ⊥ = omega (arith, x.high) in absurd z

  stands-needs : (os : List Level) → Somewhere rows m os → k < 37 → stands_on (ground_among section os) k ≡ true → Needs k os
  stands-needs os s h e =
      let r = stands-range (ground_among section os) k e in
      record {
        low = h;
        leaving = λ q z. let y : ⊥ = omega (arith, r.0, leaves-high k h q, ground-empty section os z) in y;
        alone = λ q. alone-is os s (omega (arith, r.1, high-at k 1 q, stands-1.1));
      }

  module _ (l : 1 ≤ k) (h : k < 23) where
    fit_is : (os : List Level) → Somewhere rows m os → (stands_in k).start ≤ ground_among section os → ground_among section os < (stands_in k).end → Fit k (row_at rows m).before os
    unfolding ground_among
    fit_is os (nowhere z) a b =
        record {
          alone = λ _. refl;
          frame = λ q. high (omega arith);
          some = λ d. high (let y : 2 ≤ k = omega (arith, d) in y);
          function = λ q. high (omega arith);
          block = λ q. high (omega arith);
          arm = λ q. high (omega arith);
        }
      where
        high : {P : Type 0} → 2 ≤ k → P
        high q = let y : ⊥ = omega (arith, row-high k q h) in absurd y
    fit_is os (somewhere o bs r e x ch) a b =
        record {
          alone = λ q. let y : ⊥ = omega (arith, x.high, high-at k 1 q, stands-1.1) in absurd y;
          frame = λ q. omega (arith, high-at k 5 q, stands-5.1);
          some = λ d. tt;
          function = λ q.
              let g : o.ground ≡ 4 = omega (arith, low-at k 2 q, high-at k 2 q, stands-2.0, stands-2.1) in (g, x.first g);
          block = λ q.
              let g : o.ground ≡ 5 = omega (arith, low-at k 4 q, high-at k 4 q, stands-4.0, stands-4.1) in
              (g, ap (λ (v : Row). v.before) e ∙ x.before g);
          arm = λ q. let g : 6 ≤ o.ground = omega (arith, arm-high k q h) in (g, x.bare g);
        }

-- ---- rows put

-- one row more: a world that holds what is open
record Held (os : List Level) (y : World) : Type 0 where
  pub long : length y.table ≡ 8200
  pub low : y.state.top < y.state.count
  pub chain : Chain y.table y.state.top os

held-put : (k token next operands n : ℕ) (y : World) (os : List Level) → y.state.count ≤ 1024 → Needs k os → (k ≡ 5 → Frame os) → (k ≡ 3 → y.state.locals ≡ locals_in os) → Held os y
    → Held (opened_by k n os) (put_kind k token next operands y) × ((put_kind k token next operands y).state.count ≡ y.state.count + 1)
unfolding put_kind put_state
held-put k token next operands n y os c d f b h =
    let z : y.state.count * 8 + 8 ≤ length y.table = omega (arith, h.long) in
    let g = chain_more y.table y.state.count y.state.top z h.low k token next y.state.locals operands n os d f b h.chain in (
      record { long = length-put y.table y.state.count _ z ∙ h.long; low = g.1; chain = g.0 },
      refl,
    )

-- a test: what opens an arm
test_facts : ℕ → Bool
test_facts k = implies (leb 14 k) (not (leaves k))

tests-all : T (under test_facts 20)
unfolding test_facts leaves if_lt if_eq
tests-all = tt

test-stays : (k : ℕ) → 14 ≤ k → k < 20 → leaves k ≡ false
unfolding test_facts
test-stays k l h = not-true (leaves k) (imply (leb 14 k) (not (leaves k)) (under_at test_facts 20 k tests-all h) (le-leb 14 k l))
  where
    not-true : (b : Bool) → not b ≡ true → b ≡ false
    not-true true e = true-false (sym e)
    not-true false e = refl

test-needs : (k : ℕ) (os : List Level) → 14 ≤ k → k < 20 → Needs k os
test-needs k os l h =
    record {
      low = omega arith;
      leaving = λ q _. true-false (sym q ∙ test-stays k l h);
      alone = λ q. let z : ⊥ = omega arith in absurd z;
    }

rows-21 : rows_of 21 ≡ 2
unfolding rows_of if_eq
rows-21 = refl

few : (rows_of 1 ≡ 1) × (rows_of 5 ≡ 1) × (rows_of 4 ≡ 1) × (rows_of 3 ≡ 1)
unfolding rows_of if_eq if_lt
few = (refl, refl, refl, refl)

no_rows : (k : ℕ) → rows_of k ≡ 0 → (k ≡ 1 → ⊥) × (k ≡ 5 → ⊥) × (k ≡ 4 → ⊥) × (k ≡ 3 → ⊥)
no_rows k e = (
  λ q. let z : ⊥ = omega (arith, ap rows_of q, few.0) in z,
  λ q. let z : ⊥ = omega (arith, ap rows_of q, few.1) in z,
  λ q. let z : ⊥ = omega (arith, ap rows_of q, few.2) in z,
  λ q. let z : ⊥ = omega (arith, ap rows_of q, few.3) in z,
)

one-row : (k : ℕ) → rows_of k ≡ 1 → (1 ≤ k) × (k < 25)
unfolding rows_of
one-row k =
    either-eq (λ (m : ℕ). m ≡ 1 → (1 ≤ k) × (k < 25)) k 0 _ _ (λ _ q. let z : ⊥ = omega arith in absurd z) (λ f.
    either-eq (λ (m : ℕ). m ≡ 1 → (1 ≤ k) × (k < 25)) k 21 _ _ (λ _ q. let z : ⊥ = omega arith in absurd z) (λ _.
    either (λ (m : ℕ). m ≡ 1 → (1 ≤ k) × (k < 25)) k 25 _ _ (λ l _. (omega (arith, f), l)) (λ _ q. let z : ⊥ = omega arith in absurd z)))

-- ---- behind a line

some-locals : (os : List Level) (v : ℕ) → (os ≡ [] → ⊥) → LocalsAre os v → v ≡ locals_in os
some-locals [] v d c = absurd (d refl)
some-locals (o ∷ os) v d c = c

all_one : (n k : ℕ) (os : List Level) → opened_by_all n (k ∷ []) os ≡ opened_by k n os
unfolding opened_by_all
all_one n k os = refl

all_two : (n k j : ℕ) (os : List Level) → opened_by_all n (k ∷ j ∷ []) os ≡ opened_by j n (opened_by k n os)
unfolding opened_by_all
all_two n k j os = refl

all_none : (n : ℕ) (os : List Level) → opened_by_all n [] os ≡ os
unfolding opened_by_all
all_none n os = refl

module _ (t : List ℕ) (u : Span) (k : ℕ) where
  abbrev here : Line
  here = record { unit = u; kind = k }

  abbrev second : ℕ
  second = kind_of_word (word_at t (u.word + 1))

  grow-0 : (y : World) → rows_of k ≡ 0 → grow_by (rows_of k) t u k y ≡ y
  unfolding grow_by
  grow-0 y e = if_eq-yes _ _ e

  grow-1 : (y : World) → rows_of k ≡ 1 → grow_by (rows_of k) t u k y ≡ put_kind k u.word u.next (operand_count u) y
  unfolding grow_by
  grow-1 y e = if_eq-no _ _ (λ z. let q : ⊥ = omega arith in q) ∙ if_eq-yes _ _ e

  grow-2 : (y : World) → rows_of k ≡ 2 → grow_by (rows_of k) t u k y ≡ put_kind second (u.word + 1) u.next 2 (put_kind k u.word (u.word + 1) 0 y)
  unfolding grow_by grow_two
  grow-2 y e = if_eq-no _ _ (λ z. let q : ⊥ = omega arith in q) ∙ if_eq-no _ _ (λ z. let q : ⊥ = omega arith in q)

  kinds-0 : rows_of k ≡ 0 → statement_kinds t here ≡ []
  unfolding statement_kinds
  kinds-0 e = if_eq-yes _ _ e

  kinds-1 : rows_of k ≡ 1 → statement_kinds t here ≡ k ∷ []
  unfolding statement_kinds
  kinds-1 e = if_eq-no _ _ (λ z. let q : ⊥ = omega arith in q) ∙ if_eq-yes _ _ e

  kinds-2 : rows_of k ≡ 2 → statement_kinds t here ≡ k ∷ second ∷ []
  unfolding statement_kinds
  kinds-2 e = if_eq-no _ _ (λ z. let q : ⊥ = omega arith in q) ∙ if_eq-no _ _ (λ z. let q : ⊥ = omega arith in q)

-- what the state says of a line that breaks no rule
record Here (t : List ℕ) (u : Span) (k : ℕ) (os : List Level) (y : World) : Type 0 where
  pub room : y.state.count + rows_of k ≤ 1025
  pub kind : k ≡ line_kind t u.word
  pub some : k ≡ 0 → ⊥
  pub needs : Needs k os
  pub fit : 1 ≤ k → k < 23 → Fit k (row_at y.table y.state.top).before os
  pub counted : Counted os y.state.locals y.state.depth
  pub held : Held os y

module _ (t : List ℕ) (u : Span) (k : ℕ) (os : List Level) (y : World) (a : Here t u k os y) where
  kind-low : k < 25 → k < 23
  kind-low h = subst (λ (i : ℕ). i < 23) (sym a.kind) (line-says t u.word (subst (λ (i : ℕ). i < 25) a.kind h) (λ z. a.some (a.kind ∙ z))).low

  second-test : k ≡ 21 → (14 ≤ kind_of_word (word_at t (u.word + 1))) × (kind_of_word (word_at t (u.word + 1)) < 20)
  second-test e =
      let s = (line-says t u.word (subst (λ (i : ℕ). i < 25) a.kind (omega arith)) (λ z. a.some (a.kind ∙ z))).test (sym a.kind ∙ e) in
      let q : kind_of_word (word_at t (u.word + 1)) ≡ word_at t (u.word + 1) - 13 = test-kind (word_at t (u.word + 1)) s.0 s.1 in
      (omega (arith, s.0), omega (arith, s.1))

  frame-locals : k ≡ 3 → y.state.locals ≡ locals_in os
  frame-locals e = by os ((a.fit (omega arith) (omega arith)).some (λ z. let q : ⊥ = omega arith in q)) a.counted.locals
    where
      by : (bs : List Level) → Head (λ o cs. Unit {0}) bs → LocalsAre bs y.state.locals → y.state.locals ≡ locals_in bs
      by [] f c = absurd f
      by (o ∷ cs) f c = c

  -- the rows put
  abbrev Grown : List ℕ → World → Type 0
  Grown ks z = Held (opened_by_all (operand_count u) ks os) z × (z.state.count ≡ y.state.count + rows_of k)

  grown : Grown (statement_kinds t (here t u k)) (grow_by (rows_of k) t u k y)
  grown =
      elim (ℕ_discrete (rows_of k) 0) [
        | yes e ↦ rw (kinds-0 t u k e, grow-0 t u k y e) (rw (all_none (operand_count u) os) a.held, omega arith)
        | no d ↦ elim (ℕ_discrete (rows_of k) 1) [
          | yes e ↦ rw (kinds-1 t u k e, grow-1 t u k y e) (one e)
          | no f ↦ let e : k ≡ 21 = rows-two k d f in
              let r : rows_of k ≡ 2 = ap rows_of e ∙ rows-21 in rw (kinds-2 t u k r, grow-2 t u k y r) (two e r)
        ]
      ]
    where
      one : rows_of k ≡ 1 → Grown (k ∷ []) (put_kind k u.word u.next (operand_count u) y)
      one e =
          let l = one-row k e in
          let h : k < 23 = kind-low l.1 in
          let g = held-put k u.word u.next (operand_count u) (operand_count u) y os (omega (arith, a.room)) a.needs (a.fit l.0 h).frame frame-locals a.held in
          (rw (all_one (operand_count u) k os) g.0, omega (arith, g.1))

      two : k ≡ 21 → rows_of k ≡ 2 → Grown (k ∷ second t u k ∷ []) (put_kind (second t u k) (u.word + 1) u.next 2 (put_kind k u.word (u.word + 1) 0 y))
      two e r =
          let s = second-test e in
          let g = held-put k u.word (u.word + 1) 0 (operand_count u) y os (omega (arith, a.room)) a.needs (λ q. let z : ⊥ = omega arith in absurd z) (λ q. let z : ⊥ = omega arith in absurd z) a.held in
          let h = held-put (second t u k) (u.word + 1) u.next 2 (operand_count u) (put_kind k u.word (u.word + 1) 0 y) (opened_by k (operand_count u) os) (omega (arith, a.room, g.1)) (test-needs (second t u k) (opened_by k (operand_count u) os) s.0 s.1) (λ q. let z : ⊥ = omega (arith, s.0) in absurd z) (λ q. let z : ⊥ = omega (arith, s.0) in absurd z) g.0 in
          (rw (all_two (operand_count u) k (second t u k) os) h.0, omega (arith, g.1, h.1))

  abbrev atop : ℕ
  atop = (row_at y.table y.state.top).before

  abbrev After : List ℕ → Type 0
  After ks = Counted (opened_by_all (operand_count u) ks os) (locals_behind k (operand_count u) atop y.state.locals) (depth_behind k y.state.depth)

  same_locals : (k ≡ 1 → ⊥) → (k ≡ 5 → ⊥) → (k ≡ 4 → ⊥) → locals_behind k (operand_count u) atop y.state.locals ≡ y.state.locals
  unfolding locals_behind
  same_locals a b c = if_eq-no _ _ a ∙ if_eq-no _ _ b ∙ if_eq-no _ _ c

  same-depth : (k ≡ 1 → ⊥) → (k ≡ 3 → ⊥) → (k ≡ 4 → ⊥) → depth_behind k y.state.depth ≡ y.state.depth
  unfolding depth_behind
  same-depth a b c = if_eq-no _ _ a ∙ if_eq-no _ _ b ∙ if_eq-no _ _ c

  after : After (statement_kinds t (here t u k))
  after =
      elim (ℕ_discrete (rows_of k) 0) [
        | yes e ↦ let q = no_rows k e in
            rw (kinds-0 t u k e, all_none (operand_count u) os, same_locals q.0 q.1 q.2, same-depth q.0 q.3 q.2) a.counted
        | no d ↦ elim (ℕ_discrete (rows_of k) 1) [
          | yes e ↦ let l = one-row k e in
              rw (kinds-1 t u k e, all_one (operand_count u) k os)
              (next-counted (operand_count u) atop y.state.locals y.state.depth k l.0 (kind-low l.1) os (a.fit l.0 (kind-low l.1)) a.counted)
          | no f ↦ let e : k ≡ 21 = rows-two k d f in
              rw (kinds-2 t u k (ap rows_of e ∙ rows-21), all_two (operand_count u) k (second t u k) os) (other e)
        ]
      ]
    where
      other : k ≡ 21 → Counted (opened_by (second t u k) (operand_count u) (opened_by k (operand_count u) os)) (locals_behind k (operand_count u) atop y.state.locals) (depth_behind k y.state.depth)
      other e =
          let s = second-test e in
          subst (λ (i : ℕ). Counted (opened_by (second t u k) (operand_count u) (opened_by i (operand_count u) os)) (locals_behind i (operand_count u) atop y.state.locals) (depth_behind i y.state.depth)) (sym e)
          (else-if-counted (operand_count u) atop y.state.locals y.state.depth (second t u k) os s.0 s.1 (subst (λ (i : ℕ). Fit i atop os) e (a.fit (omega arith) (omega arith))) a.counted)

-- ---- line after line

module _ (w : Width) (t : List ℕ) (n : ℕ) (before : List Line) (y : World) (a : Agree t before y) where
  abbrev u : Span
  u = unit_at t y.state.at

  abbrev k : ℕ
  k = line_kind t (unit_at t y.state.at).word

  abbrev g : ℕ
  g = ground_in y.state (open_row y)

  abbrev x : Line
  x = record { unit = unit_at t y.state.at; kind = line_kind t (unit_at t y.state.at).word }

  os-some : 2 ≤ k → k < 23 → stands_on (ground_before t before) k ≡ true → open_before t before ≡ [] → ⊥
  unfolding ground_before
  os-some l h e z =
      let r = stands-range (ground_among (section_before before) (open_before t before)) k e in
      let q : ⊥ = omega (arith, r.0, row-high k l h, ground-empty (section_before before) (open_before t before) z, section-low before) in q

  locals_are : k ≡ 5 → stands_on (ground_before t before) k ≡ true → y.state.locals ≡ locals_in (open_before t before)
  locals_are e p = some-locals (open_before t before) y.state.locals (os-some (omega arith) (omega arith) p) a.counted.locals

  labels_in_lem : labels_on t x ≡ labels_among (u.word - u.first) t u.first
  unfolding labels_on
  labels_in_lem = refl

  count-in : label_count t x ≡ labels_on t x + import_labels t u k
  unfolding label_count
  count-in = refl

  -- all labels of a line that breaks no rule
  all-few : LineFine w t before x → labels_before t before + label_count t x ≤ 256
  all-few f =
      elim (ℕ_discrete k 36) [
        | yes e ↦ f.imports e
        | no d ↦ omega (arith, f.labels, count-in, import-none t u k d)
      ]

  kind-on : (k ≡ 36 → ground_before t before ≡ 1) → kind_on t before x ≡ k
  kind-on f = on-is (ground_before t before) k f

  placed-is : LineFine w t before x → stands_on (ground_before t before) k ≡ true
  placed-is f = subst (λ (v : ℕ). stands_on (ground_before t before) v ≡ true) (kind-on f.between) f.placed

  -- the parser finds nothing: no rule is broken
  clean-fine : none ≤ fault_at w t n y → LineFine w t before x
  unfolding fault_at
  clean-fine h =
      let r = fault-rules w t n u k g y.state (unit-clean w t n u y h) in
      let o = ground-is t before y a in
      let v : k ≡ 36 → ground_before t before ≡ 1 = λ e. sym o ∙ import-ground w t n u y h e in
      let p : stands_on (ground_before t before) k ≡ true = subst (λ (v : ℕ). stands_on v k ≡ true) o (place-by t n u k g r.place) in
      let m = labels-by t n u k y.state.labels (omega (arith, a.labels, a.few)) r.labels in
      let c = labels-count t n u k y.state.labels in
      let i = unit-order t y.state.at in
      let z = tokens-by t n u k r.tokens in
      record {
        shaped = subst (λ (v : ℕ). is_among v (0 ∷ 34 ∷ []) ≡ false → shape_fits w t u v ≡ true) (sym (kind-on v)) (shape-by w t n u k r.shape);
        substitutes = z.known;
        names = z.names;
        sizes = z.sizes;
        placed = subst (λ (v : ℕ). stands_on (ground_before t before) v ≡ true) (sym (kind-on v)) p;
        labelled = λ e. subst (λ (v : ℕ). may_label v (kind_at t u.word) (word_at t u.word) ≡ true) o (label-by t n u k g r.label e);
        named = λ i b c e. reserved-by t n i (m.0 i b (omega arith) e);
        kept = left_by t n u k r.left;
        between = v;
        statements = omega (arith, room_by t n u k y.state.count r.room, a.count, a.free);
        labels = omega (arith, m.1, labels_in_lem, a.labels);
        imports = λ e. omega (arith, import-by t n u k (labels_rule t n u y.state.labels).count r.import (omega (arith, c, m.1)), c, count-in, labels_in_lem, a.labels);
        locals = λ e. omega (arith, locals-by t n u k y.state.locals r.locals e, locals_are e p);
        blocks = λ e. omega (arith, depth-by t n u k y.state.depth r.depth e, a.counted.depth);
        arguments = list-by t n u k r.list;
      }

  -- and the other way
  fine-clean : LineFine w t before x → none ≤ fault_at w t n y
  unfolding fault_at fault_in
  fine-clean f =
      let o = unit-order t y.state.at in
      let q = ground-is t before y a in
      let c = labels-count t n u k y.state.labels in
      subst (λ (v : ℕ). none ≤ unit_fault w t n u v g y.state) (sym (on-is g k (λ e. q ∙ f.between e)))
      (rules-fault w t n u k g y.state (record {
        label = by-label t n u k g (λ e. subst (λ (v : ℕ). may_label v (kind_at t u.word) (word_at t u.word) ≡ true) (sym q) (f.labelled e));
        labels = by-labels t n u k y.state.labels (λ j b c e. by-reserved t n j (f.named j b (omega (arith, o.1)) e), omega (arith, f.labels, labels_in_lem, a.labels));
        shape = by_shape w t n u k (subst (λ (v : ℕ). is_among v (0 ∷ 34 ∷ []) ≡ false → shape_fits w t u v ≡ true) (kind-on f.between) f.shaped);
        place = by_place t n u k g (subst (λ (v : ℕ). stands_on v k ≡ true) (sym q) (placed-is f));
        left = by_left t n u k f.kept;
        import = by-import t n u k (labels_rule t n u y.state.labels).count (omega (arith, all-few f, c, count-in, labels_in_lem, a.labels));
        room = by-room t n u k y.state.count (omega (arith, f.statements, a.count));
        locals = by-locals t n u k y.state.locals (λ e. omega (arith, f.locals e, locals_are e (placed-is f)));
        depth = by-depth t n u k y.state.depth (λ e. omega (arith, f.blocks e, a.counted.depth));
        tokens = by-tokens t n u k (record { names = f.names; known = f.substitutes; sizes = f.sizes });
        list = by-list t n u k f.arguments;
      }))

  here-is : LineFine w t before x → (k ≡ 0 → ⊥) → Here t u k (open_before t before) y
  unfolding ground_before
  here-is f d =
      let s = where-is y.table y.state.top (open_before t before) a.chain in
      let r = stands-range (ground_among (section_before before) (open_before t before)) k (placed-is f) in
      record {
        room = omega (arith, f.statements, a.count);
        kind = refl;
        some = d;
        needs = stands-needs y.table y.state.top (section_before before) k (section-low before) (open_before t before) s (omega (arith, line_low t u.word)) (placed-is f);
        fit = λ l h. fit_is y.table y.state.top (section_before before) k (section-low before) l h (open_before t before) s r.0 r.1;
        counted = a.counted;
        held = record { long = a.long; low = a.low; chain = a.chain };
      }

  -- and stays so behind a line that breaks no rule
  pub agree-next : LineFine w t before x → (k ≡ 0 → ⊥) → Agree t (x ∷ before) (next_world t n y)
  unfolding next_world kind_in advance join_state state_behind open_before statements_before labels_before section_before section_behind
  agree-next f d =
      let h = here-is f d in
      let z = grown t u k (open_before t before) y h in
      record {
        long = z.0.long;
        low = z.0.low;
        chain = z.0.chain;
        count = omega (arith, z.1, a.count);
        free = omega (arith, z.1, h.room);
        section = ap (λ (v : ℕ). if_eq k 25 2 (if_eq k 26 1 (if_eq k 32 3 (if_eq k 33 2 v)))) a.section;
        counted = after t u k (open_before t before) y h;
        labels = omega (arith, labels-count t n u k y.state.labels, count-in, labels_in_lem, a.labels);
        few = omega (arith, all-few f);
      }

pub lines_more : (left : ℕ) (t : List ℕ) (at : ℕ) → lines_from (suc left) t at
    ≡ record { unit = unit_at t at; kind = line_kind t (unit_at t at).word } ∷ if_eq (line_kind t (unit_at t at).word) 0 [] (lines_from left t (unit_at t at).next)
unfolding lines_from line_from
lines_more left t at = refl

next-at : (t : List ℕ) (n : ℕ) (y : World) → (next_world t n y).state.at ≡ (unit_at t y.state.at).next
unfolding next_world advance join_state state_behind
next-at t n y = refl

module _ (w : Width) (t : List ℕ) (n : ℕ) where
  abbrev Fine : List Line → Line → Type 0
  Fine = LineFine w t

  faults-more : (left : ℕ) (y : World) → faults_from (suc left) w t n y ≡ fault_at w t n y ∷ if_eq (line_kind t (unit_at t y.state.at).word) 0 [] (faults_from left w t n (next_world t n y))
  unfolding faults_from kind_in
  faults-more left y = refl

  clean-each : (left : ℕ) (before : List Line) (y : World) → Agree t before y → Clean (faults_from left w t n y) → EachFrom Fine before (lines_from left t y.state.at)
  unfolding lines_from faults_from
  clean-each zero before y a c = tt
  clean-each (suc left) before y a c =
      let d = subst Clean (faults-more left y) c in
      let f : Fine before (x w t n before y a) = clean-fine w t n before y a d.0 in
      subst (EachFrom Fine before) (sym (lines_more left t y.state.at))
      (elim (ℕ_discrete (line_kind t (unit_at t y.state.at).word) 0) [
        | yes e ↦ (f, subst (EachFrom Fine (x w t n before y a ∷ before)) (sym (if_eq-yes [] (lines_from left t (unit_at t y.state.at).next) e)) tt)
        | no e ↦ (
          f,
          subst (EachFrom Fine (x w t n before y a ∷ before)) (sym (if_eq-no [] (lines_from left t (unit_at t y.state.at).next) e))
              (subst (λ (i : ℕ). EachFrom Fine (x w t n before y a ∷ before) (lines_from left t i)) (next-at t n y)
              (clean-each left (x w t n before y a ∷ before) (next_world t n y) (agree-next w t n before y a f e) (subst Clean (if_eq-no [] (faults_from left w t n (next_world t n y)) e) d.1))),
        )
      ])

  each-clean : (left : ℕ) (before : List Line) (y : World) → Agree t before y → EachFrom Fine before (lines_from left t y.state.at) → Clean (faults_from left w t n y)
  unfolding lines_from faults_from
  each-clean zero before y a c = tt
  each-clean (suc left) before y a c =
      let d = subst (EachFrom Fine before) (lines_more left t y.state.at) c in
      let f : Fine before (x w t n before y a) = d.0 in
      subst Clean (sym (faults-more left y))
      (elim (ℕ_discrete (line_kind t (unit_at t y.state.at).word) 0) [
        | yes e ↦ (fine-clean w t n before y a f, subst Clean (sym (if_eq-yes [] (faults_from left w t n (next_world t n y)) e)) tt)
        | no e ↦ (
          fine-clean w t n before y a f,
          subst Clean (sym (if_eq-no [] (faults_from left w t n (next_world t n y)) e))
              (each-clean left (x w t n before y a ∷ before) (next_world t n y) (agree-next w t n before y a f e)
              (subst (λ (i : ℕ). EachFrom Fine (x w t n before y a ∷ before) (lines_from left t i)) (sym (next-at t n y))
              (subst (EachFrom Fine (x w t n before y a ∷ before)) (if_eq-no [] (lines_from left t (unit_at t y.state.at).next) e) d.1))),
        )
      ])

  pub begin-agree : Agree t [] (world begin (zeros 8200))
  unfolding open_before statements_before section_before labels_before blocks_in
  begin-agree =
      record {
        long = length-replicate {A = ℕ} 8200 0;
        low = omega arith;
        chain = closed;
        count = refl;
        free = omega arith;
        section = refl;
        counted = record { locals = tt; depth = refl };
        labels = refl;
        few = omega arith;
      }

  -- "it breaks none of the listed rules": of 'Tokens to statements'
  pub lines-fine : Clean (all_faults w t n) ↔ EachLine t Fine
  unfolding all_faults lines_of
  lines-fine = (
    clean-each (suc (length t)) [] (world begin (zeros 8200)) begin-agree,
    each-clean (suc (length t)) [] (world begin (zeros 8200)) begin-agree,
  )
