-- The labels of a unit without a fault.
-- Assumes nothing.
use mathlib.Core.Path.{◌≡◌, refl, sym, ◌∙◌, ap, subst}
use mathlib.Core.Bool.{Bool, true, false, not}
use mathlib.Core.List.{List, [], ◌∷◌, ◌++◌}
use Prim.Native.Nat.{ℕ, zero, suc, ◌+◌, ◌*◌, ◌-◌, ◌≤◌, ◌<◌, min}
use native.Mathlib.Decide.{dec_lt, ℕ_discrete}
use native.Mathlib.Omega.{arith}
use lib.Dec.{T, eqb, leb, leb→le}
use lib.ListN.{length, get_or}
use borrow.Author.Tests.{eq-eqb, eqb-true}
use Rattle.base_prelude.specs.Choice.{if_lt, if_eq, if_true}
use Rattle.base_prelude.specs.Fault.{none, least_of}
use Rattle.base_prelude.specs.Lists.{is_among}
use Rattle.base_prelude.proofs.Choice.{either, either-eq, either_true, if_eq-yes, true-false}
use Rattle.base_prelude.proofs.Table.{every, at}
use Rattle.base_limits.specs.declared.Width.{Width}
use Rattle.lang_kinds.specs.Nesting.{stands_in, ground_of, rows_of, word_kinds, kind_of_word}
use Rattle.lang_kinds.specs.Standing.{ground_numbered, stands_on}
use Rattle.std.specs.declared.ops.Range.{Range}
use Rattle.lang_kinds.proofs.Standing.{stands-range}
use Rattle.lang_kinds.proofs.Cases.{kind-none, kind-known}
use Rattle.parse_lines.specs.Tokens.{kind_at, word_at}
use Rattle.parse_lines.specs.Lines.{section_kind, end_kind, test_kind, else_kind, set_kind, symbol_kind, other_kind, line_kind}
use Rattle.parse_lines.specs.declared.Span.{Span}
use Rattle.parse_lines.proofs.Keys.{key-low}
use Rattle.parse_rules.specs.Rules.{shape_rule, left_rule, reserved_label, label_key, labelled, label_step, labels_from, labels_rule}
use Rattle.parse_rules.specs.declared.Labelled.{Labelled}
use Rattle.parse_verdict.proofs.Counts.{from_low}
use Rattle.prog_tables.specs.Tests.{given, all_below}
use Rattle.prog_tables.proofs.Each.{below_at, given-then}
use Rattle.parse_units.specs.Places.{ground_in, labelled_on, may_label, label_rule, place_rule, line_faults, unit_fault}
use Rattle.parse_units.proofs.Labelled.{may-before, may-first}
use Rattle.parse_units.specs.declared.Row.{Row}
use Rattle.parse_units.specs.declared.State.{State}

-- ---- kinds of lines

-- a kind that is not that of the source's end
abbrev Some : ℕ → Type 0
Some k = (1 ≤ k) × (k ≤ 35)

-- of a line whose magic word is w: that of `import` alone is later
abbrev Begun : ℕ → ℕ → Type 0
Begun w k = (1 ≤ k) × (k ≤ 36) × (k ≡ 36 → w ≡ 2)

begun : (w k : ℕ) → Some k → Begun w k
begun w k h = (h.0, omega (arith, h.1), λ e. let z : ⊥ = omega (arith, h.1) in absurd z)

unfoldable import_test : ℕ → Bool
import_test w = given (eqb (kind_of_word w) 36) (eqb w 2)

one-import : all_below import_test 33 ≡ true
unfolding all_below import_test kind_of_word
one-import = refl

import-word : (w : ℕ) → w < 33 → kind_of_word w ≡ 36 → w ≡ 2
unfolding import_test
import-word w h e = eqb-true _ _ (given-then _ _ (below_at import_test 33 w one-import h) (eq-eqb _ _ e))

word-begun : (w : ℕ) → Begun w (kind_of_word w)
word-begun w =
    elim (dec_lt w 33) [
      | yes h ↦
          let a : 1 ≤ get_or word_kinds w 0 = leb→le 1 (get_or word_kinds w 0) (at 0 (λ (i k : ℕ). leb 1 k) word_kinds tt w h) in
          let b : get_or word_kinds w 0 ≤ 36 = leb→le (get_or word_kinds w 0) 36 (at 0 (λ (i k : ℕ). leb k 36) word_kinds tt w h) in
          (omega (arith, kind-known w h), omega (arith, kind-known w h), import-word w h)
      | no h ↦ begun w (kind_of_word w) (omega (arith, kind-none w (omega arith)), omega (arith, kind-none w (omega arith)))
    ]

section-some : (w : ℕ) → Some (section_kind w)
unfolding section_kind
section-some w =
    either-eq Some w 52 _ _ (λ _. (omega arith, omega arith)) (λ _.
    either-eq Some w 53 _ _ (λ _. (omega arith, omega arith)) (λ _.
    either-eq Some w 54 _ _ (λ _. (omega arith, omega arith)) (λ _. (omega arith, omega arith))))

end-some : (w : ℕ) → Some (end_kind w)
unfolding end_kind
end-some w =
    either-eq Some w 9 _ _ (λ _. (omega arith, omega arith)) (λ _.
    either-eq Some w 10 _ _ (λ _. (omega arith, omega arith)) (λ _.
    either-eq Some w 13 _ _ (λ _. (omega arith, omega arith)) (λ _.
    either-eq Some w 8 _ _ (λ _. (omega arith, omega arith)) (λ _. (omega arith, omega arith)))))

else-some : (kind w : ℕ) → Some (else_kind kind w)
unfolding else_kind test_kind
else-some kind w =
    either Some kind 2 _ _ (λ _. (omega arith, omega arith)) (λ _.
    either-eq Some kind 3 _ _
    (λ _. either Some w 27 _ _ (λ _. (omega arith, omega arith)) (λ _.
    either Some w 33 _ _ (λ _. (omega arith, omega arith)) (λ _. (omega arith, omega arith))))
    (λ _. (omega arith, omega arith)))

set-some : (kind : ℕ) → Some (set_kind kind)
unfolding set_kind
set-some kind =
    either-eq Some kind 5 _ _ (λ _. (omega arith, omega arith)) (λ _.
    either-eq Some kind 6 _ _ (λ _. (omega arith, omega arith)) (λ _.
    either-eq Some kind 8 _ _ (λ _. (omega arith, omega arith)) (λ _. (omega arith, omega arith))))

symbol-begun : (w kind second : ℕ) → Begun w (symbol_kind w kind second)
unfolding symbol_kind
symbol-begun w kind second =
    either-eq (Begun w) w 1 _ _ (λ _. begun w _ (either-eq Some kind 3 _ _ (λ _. section-some second) (λ _. (omega arith, omega arith)))) (λ _.
    either-eq (Begun w) w 11 _ _ (λ _. begun w _ (either-eq Some kind 3 _ _ (λ _. end-some second) (λ _. (omega arith, omega arith)))) (λ _.
    either-eq (Begun w) w 12 _ _ (λ _. begun w _ (else-some kind second)) (λ _.
    either-eq (Begun w) w 18 _ _ (λ _. begun w _ (set-some kind)) (λ _. word-begun w))))

other-low : (kind w : ℕ) → other_kind kind w ≤ 35
unfolding other_kind
other-low kind w =
    either-eq (λ (k : ℕ). k ≤ 35) kind 0 _ _ (λ _. omega arith) (λ _.
    either-eq (λ (k : ℕ). k ≤ 35) kind 4 _ _ (λ _. either-eq (λ (k : ℕ). k ≤ 35) w 3 _ _ (λ _. omega arith) (λ _. omega arith)) (λ _.
    either-eq (λ (k : ℕ). k ≤ 35) kind 6 _ _ (λ _. either-eq (λ (k : ℕ). k ≤ 35) w 3 _ _ (λ _. omega arith) (λ _. omega arith)) (λ _. omega arith)))

pub line_low : (t : List ℕ) (i : ℕ) → line_kind t i ≤ 36
unfolding line_kind
line_low t i =
    either-eq (λ (k : ℕ). k ≤ 36) (kind_at t i) 3 _ _ (λ _. (symbol-begun (word_at t i) (kind_at t (i + 1)) (word_at t (i + 1))).1)
    (λ _. omega (arith, other-low (kind_at t i) (word_at t i)))

-- a line of an import
pub line-import : (t : List ℕ) (i : ℕ) → line_kind t i ≡ 36 → (kind_at t i ≡ 3) × (word_at t i ≡ 2)
unfolding line_kind
line-import t i =
    either-eq (λ (k : ℕ). k ≡ 36 → (kind_at t i ≡ 3) × (word_at t i ≡ 2)) (kind_at t i) 3 _ _
    (λ e q. (e, (symbol-begun (word_at t i) (kind_at t (i + 1)) (word_at t (i + 1))).2 q))
    (λ _ q. let z : ⊥ = omega (arith, other-low (kind_at t i) (word_at t i)) in absurd z)

-- a symbol starts a line
pub line-some : (t : List ℕ) (i : ℕ) → kind_at t i ≡ 3 → 1 ≤ line_kind t i
unfolding line_kind
line-some t i e = subst (λ (k : ℕ). 1 ≤ k) (sym (if_eq-yes _ _ e)) (symbol-begun (word_at t i) (kind_at t (i + 1)) (word_at t (i + 1))).0

-- a line whose magic word is `function`
symbol-function : (kind second : ℕ) → symbol_kind 9 kind second ≡ 1
unfolding symbol_kind if_eq kind_of_word
symbol-function kind second = refl

function-line : (t : List ℕ) (i : ℕ) → kind_at t i ≡ 3 → word_at t i ≡ 9 → line_kind t i ≡ 1
unfolding line_kind
function-line t i a b = if_eq-yes _ _ a ∙ ap (λ (w : ℕ). symbol_kind w (kind_at t (i + 1)) (word_at t (i + 1))) b ∙ symbol-function (kind_at t (i + 1)) (word_at t (i + 1))

-- ---- what a unit without a fault says

-- lines that make no row stand on no ground from 4 on
stands-low : (k : ℕ) → (k ≡ 34 → ⊥) → (k ≡ 35 → ⊥) → k ≤ 36 → (1 ≤ k → 25 ≤ k) → (stands_in k).end ≤ 4
unfolding stands_in
stands-low k p q l h =
    either-eq (λ (r : Range ℕ). r.end ≤ 4) k 0 _ _ (λ _. omega arith) (λ d.
    let g : 25 ≤ k = h (omega arith) in
    either (λ (r : Range ℕ). r.end ≤ 4) k 25 _ _ (λ a. let z : ⊥ = omega arith in absurd z) (λ _.
    either (λ (r : Range ℕ). r.end ≤ 4) k 27 _ _ (λ _. omega arith) (λ _.
    either-eq (λ (r : Range ℕ). r.end ≤ 4) k 27 _ _ (λ _. omega arith) (λ _.
    either-eq (λ (r : Range ℕ). r.end ≤ 4) k 28 _ _ (λ _. omega arith) (λ _.
    either (λ (r : Range ℕ). r.end ≤ 4) k 32 _ _ (λ _. omega arith) (λ a.
    either-eq (λ (r : Range ℕ). r.end ≤ 4) k 32 _ _ (λ _. omega arith) (λ b.
    either-eq (λ (r : Range ℕ). r.end ≤ 4) k 33 _ _ (λ _. omega arith) (λ f.
    either-eq (λ (r : Range ℕ). r.end ≤ 4) k 36 _ _ (λ _. omega arith) (λ i. let z : ⊥ = omega arith in absurd z)))))))))

place-stands : (t : List ℕ) (n : ℕ) (u : Span) (k g : ℕ) → none ≤ place_rule t n u k g → stands_on g k ≡ true
unfolding place_rule
place-stands t n u k g =
    either_true (λ (x : ℕ). none ≤ x → stands_on g k ≡ true) (stands_on g k) _ _ (λ e _. e)
    (λ _ h. let z : ⊥ = omega (arith, key-low t n u.word 8 (omega arith)) in absurd z)

place-by : (t : List ℕ) (n : ℕ) (u : Span) (k g : ℕ) → none ≤ place_rule t n u k g → g < (stands_in k).end
place-by t n u k g h = (stands-range g k (place-stands t n u k g h)).1

left_by : (t : List ℕ) (n : ℕ) (u : Span) (k : ℕ) → none ≤ left_rule t n u k → k ≡ 34 → ⊥
unfolding left_rule
left_by t n u k =
    either-eq (λ (x : ℕ). none ≤ x → k ≡ 34 → ⊥) k 34 _ _ (λ _ h _. let z : ⊥ = omega (arith, key-low t n u.word 9 (omega arith)) in z) (λ d _ e. d e)

shape-by : (w : Width) (t : List ℕ) (n : ℕ) (u : Span) (k : ℕ) → none ≤ shape_rule w t n u k → k ≡ 35 → ⊥
unfolding shape_rule
shape-by w t n u k =
    either-eq (λ (x : ℕ). none ≤ x → k ≡ 35 → ⊥) k 0 _ _ (λ a _ e. let z : ⊥ = omega arith in z) (λ _.
    either-eq (λ (x : ℕ). none ≤ x → k ≡ 35 → ⊥) k 34 _ _ (λ a _ e. let z : ⊥ = omega arith in z) (λ _.
    either-eq (λ (x : ℕ). none ≤ x → k ≡ 35 → ⊥) k 35 _ _ (λ _ h _. let z : ⊥ = omega (arith, key-low t n u.word 7 (omega arith)) in z) (λ d _ e. d e)))

-- a line that may carry labels
may-by : (g kind w : ℕ) → may_label g kind w ≡ true → (kind ≡ 3) × (g ≡ 0 → ⊥) × (g ≡ 1 → w ≡ 9)
unfolding may_label
may-by g kind w =
    either-eq (λ (b : Bool). b ≡ true → (kind ≡ 3) × (g ≡ 0 → ⊥) × (g ≡ 1 → w ≡ 9)) kind 3 _ _ (λ a h. (a, before h, first h)) (λ _ h. true-false (sym h))
  where
    before : is_among w (labelled_on (ground_numbered g)) ≡ true → g ≡ 0 → ⊥
    before h e = true-false (sym h ∙ ap (λ (x : ℕ). is_among w (labelled_on (ground_numbered x))) e ∙ may-before w)

    first : is_among w (labelled_on (ground_numbered g)) ≡ true → g ≡ 1 → w ≡ 9
    first h e =
        either-eq (λ (b : Bool). b ≡ true → w ≡ 9) w 9 true false (λ q _. q) (λ _ q. true-false (sym q))
        (sym (ap (λ (x : ℕ). is_among w (labelled_on (ground_numbered x))) e ∙ may-first w) ∙ h)

label-by : (t : List ℕ) (n : ℕ) (u : Span) (g : ℕ) → kind_at t u.first ≡ 2 → none ≤ label_rule t n u g → may_label g (kind_at t u.word) (word_at t u.word) ≡ true
unfolding label_rule
label-by t n u g e =
    either-eq (λ (x : ℕ). none ≤ x → may_label g (kind_at t u.word) (word_at t u.word) ≡ true) (kind_at t u.first) 2 _ _
    (λ _. either_true (λ (x : ℕ). none ≤ x → may_label g (kind_at t u.word) (word_at t u.word) ≡ true) (may_label g (kind_at t u.word) (word_at t u.word)) _ _
    (λ a _. a) (λ _ h. let z : ⊥ = omega (arith, key-low t n u.first 8 (omega arith)) in absurd z))
    (λ d _. absurd (d e))

-- ---- the names of labels

-- the number of a name that is not reserved
abbrev pub Free : List ℕ → ℕ → Type 0
Free t i = 1 ≤ word_at t i → 52 ≤ word_at t i

reserved-by : (t : List ℕ) (n i : ℕ) → none ≤ reserved_label t n i → Free t i
unfolding reserved_label
reserved-by t n i =
    either (λ (x : ℕ). none ≤ x → Free t i) (word_at t i) 1 _ _ (λ a _ b. let z : ⊥ = omega arith in absurd z) (λ _.
    either (λ (x : ℕ). none ≤ x → Free t i) (word_at t i) 52 _ _ (λ _ h. let z : ⊥ = omega (arith, key-low t n i 8 (omega arith)) in absurd z) (λ a _ _. a))

min-clean : (t : List ℕ) (n i c f : ℕ) → none ≤ min f (label_key t n i c) → none ≤ reserved_label t n i
unfolding label_key
min-clean t n i c f h = omega arith

step-clean : (t : List ℕ) (n i : ℕ) (x : Labelled) → kind_at t i ≡ 2 → none ≤ (label_step t n i x).fault → none ≤ reserved_label t n i
unfolding label_step
step-clean t n i x e =
    either-eq (λ (y : Labelled). none ≤ y.fault → none ≤ reserved_label t n i) (kind_at t i) 2 _ _ (λ _ h. min-clean t n i x.count x.fault h) (λ d _. absurd (d e))

from-free : (left : ℕ) (t : List ℕ) (n i : ℕ) (x : Labelled) → none ≤ (labels_from left t n i x).fault → (j : ℕ) → i ≤ j → j < i + left → kind_at t j ≡ 2 → Free t j
unfolding labels_from
from-free zero t n i x h j a b e = let z : ⊥ = omega arith in absurd z
from-free (suc left) t n i x h j a b e =
    elim (ℕ_discrete i j) [
      | yes q ↦ subst (Free t) q (reserved-by t n i (step-clean t n i x (ap (kind_at t) q ∙ e) (omega (arith, from_low left t n (i + 1) (label_step t n i x)))))
      | no d ↦ from-free left t n (i + 1) (label_step t n i x) h j (omega arith) (omega arith) e
    ]

rule-free : (t : List ℕ) (n : ℕ) (u : Span) (c : ℕ) → none ≤ (labels_rule t n u c).fault → (j : ℕ) → u.first ≤ j → j < u.word → kind_at t j ≡ 2 → Free t j
unfolding labels_rule
rule-free t n u c h j a b e = from-free (u.word - u.first) t n u.first (labelled none c) h j a (omega arith) e

-- ---- the unit

-- the ground: the section, or that of an open row
ground-by : (s : State) (o : Row) → 1 ≤ ground_in s o → ground_in s o < 4 → ground_in s o ≡ s.section
unfolding ground_in ground_of
ground-by s o =
    either-eq (λ (g : ℕ). 1 ≤ g → g < 4 → g ≡ s.section) s.top 0 _ _ (λ _ _ _. refl) (λ _.
    either-eq (λ (g : ℕ). 1 ≤ g → g < 4 → g ≡ s.section) o.kind 1 _ _ (λ _ _ h. let z : ⊥ = omega arith in absurd z) (λ _.
    either-eq (λ (g : ℕ). 1 ≤ g → g < 4 → g ≡ s.section) o.kind 3 _ _ (λ _ _ h. let z : ⊥ = omega arith in absurd z) (λ _.
    either (λ (g : ℕ). 1 ≤ g → g < 4 → g ≡ s.section) o.kind 14 _ _ (λ _ h _. let z : ⊥ = omega arith in absurd z) (λ _.
    either (λ (g : ℕ). 1 ≤ g → g < 4 → g ≡ s.section) o.kind 20 _ _ (λ _ _ h. let z : ⊥ = omega arith in absurd z) (λ _.
    either-eq (λ (g : ℕ). 1 ≤ g → g < 4 → g ≡ s.section) o.kind 20 _ _ (λ _ _ h. let z : ⊥ = omega arith in absurd z) (λ _ h _. let z : ⊥ = omega arith in absurd z))))))

unit_lines : (w : Width) (t : List ℕ) (n : ℕ) (u : Span) (k g : ℕ) (s : State) → none ≤ unit_fault w t n u k g s → none ≤ least_of (line_faults w t n u k g s)
unfolding unit_fault
unit_lines w t n u k g s c = omega arith

unit-labels : (w : Width) (t : List ℕ) (n : ℕ) (u : Span) (k g : ℕ) (s : State) → none ≤ unit_fault w t n u k g s → none ≤ (labels_rule t n u s.labels).fault
unfolding line_faults least_of
unit-labels w t n u k g s c = omega (arith, unit_lines w t n u k g s c)

-- a line may stand on its ground
pub unit-stands : (w : Width) (t : List ℕ) (n : ℕ) (u : Span) (k g : ℕ) (s : State) → none ≤ unit_fault w t n u k g s → stands_on g k ≡ true
unfolding line_faults least_of
unit-stands w t n u k g s c = place-stands t n u k g (omega (arith, unit_lines w t n u k g s c))

-- no label of a unit has a reserved name
pub unit-free : (w : Width) (t : List ℕ) (n : ℕ) (u : Span) (k g : ℕ) (s : State) → none ≤ unit_fault w t n u k g s
    → (j : ℕ) → u.first ≤ j → j < u.word → kind_at t j ≡ 2 → Free t j
unit-free w t n u k g s c j a b e = rule-free t n u s.labels (unit-labels w t n u k g s c) j a b e

module _ (w : Width) (t : List ℕ) (n : ℕ) (u : Span) (s : State) (o : Row) (c : none ≤ unit_fault w t n u (line_kind t u.word) (ground_in s o) s) (e : kind_at t u.first ≡ 2) where
  abbrev k : ℕ
  k = line_kind t u.word

  abbrev g : ℕ
  g = ground_in s o

  lines-clean : none ≤ least_of (line_faults w t n u (line_kind t u.word) (ground_in s o) s)
  lines-clean = unit_lines w t n u (line_kind t u.word) (ground_in s o) s c

  label-clean : none ≤ label_rule t n u (ground_in s o)
  unfolding line_faults least_of
  label-clean = omega (arith, lines-clean)

  shape-clean : none ≤ shape_rule w t n u (line_kind t u.word)
  unfolding line_faults least_of
  shape-clean = omega (arith, lines-clean)

  place-clean : none ≤ place_rule t n u (line_kind t u.word) (ground_in s o)
  unfolding line_faults least_of
  place-clean = omega (arith, lines-clean)

  left-clean : none ≤ left_rule t n u (line_kind t u.word)
  unfolding line_faults least_of
  left-clean = omega (arith, lines-clean)

  may : (kind_at t u.word ≡ 3) × (ground_in s o ≡ 0 → ⊥) × (ground_in s o ≡ 1 → word_at t u.word ≡ 9)
  may = may-by (ground_in s o) (kind_at t u.word) (word_at t u.word) (label-by t n u (ground_in s o) e label-clean)

  -- behind labels stands no source's end
  pub labelled-line : kind_at t u.word ≡ 3
  labelled-line = may.0

  high : 4 ≤ ground_in s o → (1 ≤ line_kind t u.word) × (line_kind t u.word < 25)
  high h =
      let a : line_kind t u.word ≤ 36 = line_low t u.word in
      let p : line_kind t u.word ≡ 34 → ⊥ = left_by t n u (line_kind t u.word) left-clean in
      let q : line_kind t u.word ≡ 35 → ⊥ = shape-by w t n u (line_kind t u.word) shape-clean in
      let b : ground_in s o < (stands_in (line_kind t u.word)).end = place-by t n u (line_kind t u.word) (ground_in s o) place-clean in
      elim (dec_lt (line_kind t u.word) 1) [
        | yes d ↦ let z : ⊥ = omega (arith, b, stands-low (line_kind t u.word) p q a (λ i. omega arith)) in absurd z
        | no d ↦
            elim (dec_lt (line_kind t u.word) 25) [
              | yes f ↦ (omega arith, f)
              | no f ↦ let z : ⊥ = omega (arith, b, stands-low (line_kind t u.word) p q a (λ i. omega arith)) in absurd z
            ]
      ]

  -- out of data a labelled line makes a row
  pub labelled-row : s.section < 2 → (1 ≤ line_kind t u.word) × (line_kind t u.word < 25)
  labelled-row h =
      elim (dec_lt (ground_in s o) 4) [
        | no d ↦ high (omega arith)
        | yes d ↦
            elim (ℕ_discrete (ground_in s o) 0) [
              | yes z ↦ absurd (may.1 z)
              | no z ↦
                  let a : ground_in s o ≡ s.section = ground-by s o (omega arith) d in
                  let b : line_kind t u.word ≡ 1 = function-line t u.word may.0 (may.2 (omega arith)) in
                  (omega arith, omega arith)
            ]
      ]
