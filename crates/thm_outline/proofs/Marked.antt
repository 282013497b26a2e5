-- The label rows that a unit adds: as many as the parser counts, and each has what its token gives.
-- Assumes nothing.
use mathlib.Core.Path.{◌≡◌, refl, sym, ◌∙◌, ap, subst}
use mathlib.Core.List.{List, [], ◌∷◌, ◌++◌}
use Prim.Native.Nat.{ℕ, zero, suc, ◌+◌, ◌*◌, ◌-◌, ◌≤◌, ◌<◌}
use native.Mathlib.Decide.{dec_lt, ℕ_discrete}
use native.Mathlib.Nat.{add-zero}
use native.Mathlib.Omega.{arith}
use lib.ListN.{length, get_or, take, drop, length-append, get_or-append}
use lib.Seq.{length-take-le, get_or-take, get_or-append-add}
use Rattle.base_prelude.specs.Choice.{if_lt, if_eq}
use Rattle.base_prelude.specs.Fault.{none}
use Rattle.base_prelude.proofs.Choice.{either, either-eq, if_lt-yes, if_eq-yes, if_eq-no}
use Rattle.parse_lines.specs.Tokens.{kind_at, host_at}
use Rattle.parse_lines.specs.declared.Span.{Span}
use Rattle.parse_rules.specs.Rules.{labelled, label_step, labels_from, labels_rule}
use Rattle.parse_rules.specs.declared.Labelled.{Labelled}
use Rattle.parse_units.specs.Places.{import_labels}
use Rattle.parse_units.proofs.Bounds.{import-few}
use Rattle.parse_outline.specs.Labels.{label_kind, label_number, put_label, Marked, marked, mark_token, mark_from, mark_before, mark_import, mark_unit}
use Rattle.parse_outline.specs.declared.Marks.{Marks}
use Rattle.parse_outline.proofs.Cases.{label-full, token-kept, before-kept}

-- ---- a label row is put

module _ (y : List ℕ) (c token kind number : ℕ) (l : length y ≡ 1024) (h : c < 256) where
  abbrev words : List ℕ
  words = token ∷ kind ∷ number ∷ 0 ∷ []

  front : length (take (c * 4) y) ≡ c * 4
  front = length-take-le (c * 4) y (omega arith)

  head : length (take (c * 4) y ++ (token ∷ kind ∷ number ∷ 0 ∷ [])) ≡ c * 4 + 4
  head = length-append (take (c * 4) y) (token ∷ kind ∷ number ∷ 0 ∷ []) ∙ ap (λ (m : ℕ). m + 4) front

  put_is : put_label y c token kind number ≡ take (c * 4) y ++ (token ∷ kind ∷ number ∷ 0 ∷ []) ++ drop (c * 4 + 4) y
  unfolding put_label
  put_is = if_lt-yes _ _ h

  put-before : (i : ℕ) → i < c * 4 → get_or (put_label y c token kind number) i 0 ≡ get_or y i 0
  put-before i g =
      ap (λ (x : List ℕ). get_or x i 0) put_is
      ∙ get_or-append (take (c * 4) y ++ (token ∷ kind ∷ number ∷ 0 ∷ [])) (drop (c * 4 + 4) y) 0 i (omega (arith, head))
      ∙ get_or-append (take (c * 4) y) (token ∷ kind ∷ number ∷ 0 ∷ []) 0 i (omega (arith, front)) ∙ get_or-take (c * 4) y i 0 g

  put_same : (j : ℕ) → j < 4 → get_or (put_label y c token kind number) (c * 4 + j) 0 ≡ get_or (token ∷ kind ∷ number ∷ 0 ∷ []) j 0
  put_same j g =
      ap (λ (x : List ℕ). get_or x (c * 4 + j) 0) put_is
      ∙ get_or-append (take (c * 4) y ++ (token ∷ kind ∷ number ∷ 0 ∷ [])) (drop (c * 4 + 4) y) 0 (c * 4 + j) (omega (arith, head))
      ∙ ap (λ (m : ℕ). get_or (take (c * 4) y ++ (token ∷ kind ∷ number ∷ 0 ∷ [])) (m + j) 0) (sym front) ∙ get_or-append-add (take (c * 4) y) (token ∷ kind ∷ number ∷ 0 ∷ []) j 0

-- ---- each row

-- what holds of the token, the kind and the number of a label row
abbrev pub RowHas : (ℕ → ℕ → ℕ → Type 0) → List ℕ → ℕ → Type 0
RowHas P y j = P (get_or y (j * 4) 0) (get_or y (j * 4 + 1) 0) (get_or y (j * 4 + 2) 0)

-- of each of c rows; no row behind the 256th is written
abbrev pub Each : (ℕ → ℕ → ℕ → Type 0) → List ℕ → ℕ → Type 0
Each P y c = (j : ℕ) → j < c → j < 256 → RowHas P y j

row_same : (P : ℕ → ℕ → ℕ → Type 0) (y z : List ℕ) (j : ℕ) → ((i : ℕ) → i < j * 4 + 4 → get_or z i 0 ≡ get_or y i 0) → RowHas P y j → RowHas P z j
row_same P y z j f h =
    subst (λ (a : ℕ). P a (get_or z (j * 4 + 1) 0) (get_or z (j * 4 + 2) 0)) (sym (f (j * 4) (omega arith)))
    (subst (λ (b : ℕ). P (get_or y (j * 4) 0) b (get_or z (j * 4 + 2) 0)) (sym (f (j * 4 + 1) (omega arith)))
    (subst (λ (c : ℕ). P (get_or y (j * 4) 0) (get_or y (j * 4 + 1) 0) c) (sym (f (j * 4 + 2) (omega arith))) h))

row_new : (P : ℕ → ℕ → ℕ → Type 0) (y : List ℕ) (c token kind number : ℕ) → length y ≡ 1024 → c < 256 → P token kind number → RowHas P (put_label y c token kind number) c
row_new P y c token kind number l h p =
    subst (λ (a : ℕ). P a (get_or (put_label y c token kind number) (c * 4 + 1) 0) (get_or (put_label y c token kind number) (c * 4 + 2) 0))
    (sym (ap (λ (i : ℕ). get_or (put_label y c token kind number) i 0) (sym (add-zero (c * 4))) ∙ put_same y c token kind number l h 0 (omega arith)))
    (subst (λ (b : ℕ). P token b (get_or (put_label y c token kind number) (c * 4 + 2) 0)) (sym (put_same y c token kind number l h 1 (omega arith)))
    (subst (λ (d : ℕ). P token kind d) (sym (put_same y c token kind number l h 2 (omega arith))) p))

put-each : (P : ℕ → ℕ → ℕ → Type 0) (y : List ℕ) (c token kind number : ℕ) → length y ≡ 1024 → Each P y c → P token kind number → Each P (put_label y c token kind number) (c + 1)
put-each P y c token kind number l e p j a b =
    elim (ℕ_discrete j c) [
      | yes q ↦ subst (λ (i : ℕ). RowHas P (put_label y c token kind number) i) (sym q) (row_new P y c token kind number l (omega arith) p)
      | no d ↦
          elim (dec_lt c 256) [
            | yes h ↦ row_same P y (put_label y c token kind number) j (λ i g. put-before y c token kind number l h i (omega arith)) (e j (omega arith) b)
            | no h ↦ subst (λ (x : List ℕ). RowHas P x j) (label-full y c token kind number (omega arith)) (e j (omega arith) b)
          ]
    ]

module _ (t : List ℕ) (first end kind number : ℕ) (P : ℕ → ℕ → ℕ → Type 0) (p : (i : ℕ) → first ≤ i → i < end → kind_at t i ≡ 2 → P i kind number) where
  token-each : (i : ℕ) (m : Marked) → first ≤ i → i < end → length m.table ≡ 1024 → Each P m.table m.count
      → Each P (mark_token t i kind number m).table (mark_token t i kind number m).count
  unfolding mark_token
  token-each i m a b l h =
      either-eq (λ (x : Marked). Each P x.table x.count) (kind_at t i) 2 _ _ (λ e. put-each P m.table m.count i kind number l h (p i a b e)) (λ _. h)

  from_each : (left i : ℕ) (m : Marked) → first ≤ i → i + left ≤ end → length m.table ≡ 1024 → Each P m.table m.count
      → Each P (mark_from left t i kind number m).table (mark_from left t i kind number m).count
  unfolding mark_from
  from_each zero i m a b l h = h
  from_each (suc left) i m a b l h =
      from_each left (i + 1) (mark_token t i kind number m) (omega arith) (omega arith) (token-kept t i kind number m l).0 (token-each i m a (omega arith) l h)

-- the rows behind the labels before a line
pub before-each : (t : List ℕ) (u : Span) (k : ℕ) (s : Marks) (y : List ℕ) (P : ℕ → ℕ → ℕ → Type 0) → u.first ≤ u.word
    → ((i : ℕ) → u.first ≤ i → i < u.word → kind_at t i ≡ 2 → P i (label_kind k s.section) (label_number s.section u.word s.row))
    → length y ≡ 1024 → Each P y s.labels → Each P (mark_before t u k s y).table (mark_before t u k s y).count
unfolding mark_before
before-each t u k s y P o p l h =
    from_each t u.first u.word (label_kind k s.section) (label_number s.section u.word s.row) P p (u.word - u.first) u.first (marked s.labels y)
    (omega arith) (omega arith) l h

-- where none stand there, none is added
pub before-none : (t : List ℕ) (u : Span) (k : ℕ) (s : Marks) (y : List ℕ) → u.word ≡ u.first → mark_before t u k s y ≡ marked s.labels y
unfolding mark_before mark_from
before-none t u k s y e =
    let z : u.word - u.first ≡ 0 = omega arith in
    ap (λ (left : ℕ). mark_from left t u.first (label_kind k s.section) (label_number s.section u.word s.row) (marked s.labels y)) z

-- the row of an import
import-each : (t : List ℕ) (u : Span) (k : ℕ) (m : Marked) (P : ℕ → ℕ → ℕ → Type 0) → ((import_labels t u k ≡ 0 → ⊥) → P (u.word + 1) 6 (host_at t (u.word + 1)))
    → length m.table ≡ 1024 → Each P m.table m.count → Each P (mark_import t u k m).table (mark_import t u k m).count
unfolding mark_import
import-each t u k m P p l h =
    either-eq (λ (x : Marked). Each P x.table x.count) (import_labels t u k) 0 _ _ (λ _. h)
    (λ d. put-each P m.table m.count (u.word + 1) 6 (host_at t (u.word + 1)) l h (p d))

pub import-none : (t : List ℕ) (u : Span) (k : ℕ) (m : Marked) → import_labels t u k ≡ 0 → mark_import t u k m ≡ m
unfolding mark_import
import-none t u k m e = if_eq-yes _ _ e

-- the rows behind a unit
pub unit-each : (t : List ℕ) (u : Span) (k : ℕ) (s : Marks) (y : List ℕ) (P : ℕ → ℕ → ℕ → Type 0) → length y ≡ 1024
    → ((import_labels t u k ≡ 0 → ⊥) → P (u.word + 1) 6 (host_at t (u.word + 1))) → Each P (mark_before t u k s y).table (mark_before t u k s y).count
    → Each P (mark_unit t u k s y).table (mark_unit t u k s y).count
unfolding mark_unit
unit-each t u k s y P l p h = import-each t u k (mark_before t u k s y) P p (before-kept t u k s y l).0 h

-- ---- their count

token-count : (t : List ℕ) (n i kind number : ℕ) (m : Marked) (x : Labelled) → m.count ≡ x.count → (mark_token t i kind number m).count ≡ (label_step t n i x).count
unfolding mark_token label_step
token-count t n i kind number m x e =
    elim (ℕ_discrete (kind_at t i) 2) [
      | yes h ↦ ap (λ (z : Marked). z.count) (if_eq-yes _ _ h) ∙ ap (λ (c : ℕ). c + 1) e ∙ sym (ap (λ (z : Labelled). z.count) (if_eq-yes _ _ h))
      | no h ↦ ap (λ (z : Marked). z.count) (if_eq-no _ _ h) ∙ e ∙ sym (ap (λ (z : Labelled). z.count) (if_eq-no _ _ h))
    ]

from-count : (left : ℕ) (t : List ℕ) (n i kind number : ℕ) (m : Marked) (x : Labelled) → m.count ≡ x.count
    → (mark_from left t i kind number m).count ≡ (labels_from left t n i x).count
unfolding mark_from labels_from
from-count zero t n i kind number m x e = e
from-count (suc left) t n i kind number m x e =
    from-count left t n (i + 1) kind number (mark_token t i kind number m) (label_step t n i x) (token-count t n i kind number m x e)

before-count : (t : List ℕ) (n : ℕ) (u : Span) (k : ℕ) (s : Marks) (y : List ℕ) → (mark_before t u k s y).count ≡ (labels_rule t n u s.labels).count
unfolding mark_before labels_rule
before-count t n u k s y = from-count (u.word - u.first) t n u.first _ _ (marked s.labels y) (labelled none s.labels) refl

import-count : (t : List ℕ) (u : Span) (k : ℕ) (m : Marked) → (mark_import t u k m).count ≡ m.count + import_labels t u k
unfolding mark_import
import-count t u k m =
    either-eq (λ (x : Marked). x.count ≡ m.count + import_labels t u k) (import_labels t u k) 0 _ _ (λ e. omega arith) (λ d. omega (arith, import-few t u k))

pub unit-count : (t : List ℕ) (n : ℕ) (u : Span) (k : ℕ) (s : Marks) (y : List ℕ)
    → (mark_unit t u k s y).count ≡ (labels_rule t n u s.labels).count + import_labels t u k
unfolding mark_unit
unit-count t n u k s y = import-count t u k (mark_before t u k s y) ∙ ap (λ (c : ℕ). c + import_labels t u k) (before-count t n u k s y)
