-- One law for each way through a function of this crate.
-- Assumes nothing.
use mathlib.Core.Path.{◌≡◌, refl, sym, ◌∙◌, ap, ap₂, subst}
use mathlib.Core.Bool.{Bool, true, false}
use mathlib.Core.List.{List, [], ◌∷◌, ◌++◌}
use Prim.Native.Nat.{ℕ, zero, suc, ◌+◌, ◌*◌, ◌-◌, ◌≤◌, ◌<◌}
use native.Mathlib.Numerals.{add-one, add-two, add-three}
use native.Mathlib.Decide.{dec_lt}
use native.Mathlib.Omega.{arith}
use lib.ListN.{length, take, drop, set, length-set}
use lib.Seq.{sets-eq}
use Rattle.base_prelude.specs.Choice.{if_lt, if_eq}
use Rattle.base_prelude.proofs.Choice.{tests, either, either-eq, if_lt-yes, if_lt-no}
use Rattle.parse_lines.specs.Tokens.{token_word}
use Rattle.parse_lines.specs.declared.Span.{Span}
use Rattle.parse_units.specs.Places.{import_labels}
use Rattle.parse_outline.specs.Labels.{label_kind, label_number, put_label, Marked, marked, mark_token, mark_from, mark_before, mark_import, mark_unit}
use Rattle.parse_outline.specs.declared.Marks.{Marks}

pub label-put : (x : List ℕ) (c token kind number : ℕ) → length x ≡ 1024 → c < 256
    → set (set (set (set x (c * 4) token) (c * 4 + 1) kind) (c * 4 + 2) number) (c * 4 + 3) 0 ≡ put_label x c token kind number
unfolding put_label
label-put x c token kind number l h =
    rw (add-one, add-two, add-three) (sets-eq (token ∷ kind ∷ number ∷ 0 ∷ []) x (c * 4) (omega arith)) ∙ sym (if_lt-yes _ _ h)

pub label-full : (x : List ℕ) (c token kind number : ℕ) → 256 ≤ c → x ≡ put_label x c token kind number
unfolding put_label
label-full x c token kind number h = sym (if_lt-no _ _ h)

pub length_label : (x : List ℕ) (c token kind number : ℕ) → length x ≡ 1024 → length (put_label x c token kind number) ≡ 1024
length_label x c token kind number l =
    elim (dec_lt c 256) [
      | yes h ↦ ap length (sym (label-put x c token kind number l h)) ∙ simp length-set l
      | no h ↦ ap length (sym (label-full x c token kind number (omega arith))) ∙ l
    ]

module _ (t : List ℕ) (i kind number c : ℕ) (x : List ℕ) (k : ℕ) (p : k ≡ token_word t i 0) where
  pub token-label : (x' : List ℕ) → k ≡ 2 → x' ≡ put_label x c i kind number → marked (c + 1) x' ≡ mark_token t i kind number (marked c x)
  unfolding mark_token
  token-label x' e q = rw (← p, ← q) (search tests)

  pub token-other : (k ≡ 2 → ⊥) → marked c x ≡ mark_token t i kind number (marked c x)
  unfolding mark_token
  token-other e = rw (← p) (search tests)

pub ruleset tokening = (token-label, token-other)

-- a label row keeps the table's length, and labels are tokens
pub token-kept : (t : List ℕ) (i kind number : ℕ) (m : Marked) → length m.table ≡ 1024
    → (length (mark_token t i kind number m).table ≡ 1024) × ((mark_token t i kind number m).count ≤ m.count + 1)
unfolding mark_token
token-kept t i kind number m l =
    either-eq (λ (y : Marked). (length y.table ≡ 1024) × (y.count ≤ m.count + 1)) _ 2 _ _
    (λ _. (length_label m.table m.count i kind number l, omega arith)) (λ _. (l, omega arith))

-- the loop of `mark_from`
pub record Labelling (t : List ℕ) (first end kind number start : ℕ) (x₀ : List ℕ) (c i : ℕ) (x : List ℕ) : Type 0 where
  pub long : length x ≡ 1024
  pub behind : first ≤ i
  pub few : c ≤ start + (i - first)
  pub rest : mark_from (end - i) t i kind number (marked c x) ≡ mark_from (end - first) t first kind number (marked start x₀)

module _ (t : List ℕ) (first end kind number start : ℕ) (x₀ : List ℕ) where
  pub labelling-start : length x₀ ≡ 1024 → Labelling t first end kind number start x₀ start first x₀
  labelling-start l = record { long = l; behind = omega arith; few = omega arith; rest = refl }

  step_is : (i left : ℕ) (m : Marked) → mark_from (suc left) t i kind number m ≡ mark_from left t (i + 1) kind number (mark_token t i kind number m)
  unfolding mark_from
  step_is i left m = refl

  end_is : (i : ℕ) (m : Marked) → mark_from 0 t i kind number m ≡ m
  unfolding mark_from
  end_is i m = refl

  module _ (c i : ℕ) (x : List ℕ) where
    pub labelling-more : (c' : ℕ) (x' : List ℕ) → Labelling t first end kind number start x₀ c i x → i < end → marked c' x' ≡ mark_token t i kind number (marked c x)
        → Labelling t first end kind number start x₀ c' (i + 1) x'
    labelling-more c' x' h l e =
        let q : end - i ≡ suc (end - (i + 1)) = omega arith in
        let k = token-kept t i kind number (marked c x) h.long in
        record {
          long = ap (λ (m : Marked). length m.table) e ∙ k.0;
          behind = omega (arith, h.behind);
          few = omega (arith, h.few, h.behind, k.1, ap (λ (m : Marked). m.count) e);
          rest = ap (λ (m : Marked). mark_from (end - (i + 1)) t (i + 1) kind number m) e ∙ sym (ap (λ (j : ℕ). mark_from j t i kind number (marked c x)) q ∙ step_is i (end - (i + 1)) (marked c x)) ∙ h.rest;
        }

    pub labelling-done : Labelling t first end kind number start x₀ c i x → end ≤ i → marked c x ≡ mark_from (end - first) t first kind number (marked start x₀)
    labelling-done h l =
        let q : end - i ≡ 0 = omega arith in
        sym (ap (λ (j : ℕ). mark_from j t i kind number (marked c x)) q ∙ end_is i (marked c x)) ∙ h.rest

    pub labelling-fits : Labelling t first end kind number start x₀ c i x → i < end → end ≤ 4097 → start ≤ 4097 → c < 4294967295
    labelling-fits h l a b = omega (arith, h.few)

pub ruleset labelling = (labelling-start, labelling-more, labelling-done)

from-kept : (left : ℕ) (t : List ℕ) (i kind number : ℕ) (m : Marked) → length m.table ≡ 1024
    → (length (mark_from left t i kind number m).table ≡ 1024) × ((mark_from left t i kind number m).count ≤ m.count + left)
unfolding mark_from
from-kept zero t i kind number m l = (l, omega arith)
from-kept (suc left) t i kind number m l =
    let k = token-kept t i kind number m l in
    let r = from-kept left t (i + 1) kind number (mark_token t i kind number m) k.0 in
    (r.0, omega (arith, r.1, k.1))

pub before-kept : (t : List ℕ) (u : Span) (k : ℕ) (s : Marks) (x : List ℕ) → length x ≡ 1024
    → (length (mark_before t u k s x).table ≡ 1024) × ((mark_before t u k s x).count ≤ s.labels + (u.word - u.first))
unfolding mark_before
before-kept t u k s x l = from-kept (u.word - u.first) t u.first _ _ (marked s.labels x) l

-- the label that an import is
module _ (t : List ℕ) (u : Span) (k c : ℕ) (x : List ℕ) (j : ℕ) (p : j ≡ import_labels t u k) where
  pub import-none : j ≡ 0 → marked c x ≡ mark_import t u k (marked c x)
  unfolding mark_import
  import-none e = rw (← p) (search tests)

  pub import-label : (m : ℕ) (x' : List ℕ) → (j ≡ 0 → ⊥) → m ≡ token_word t (u.word + 1) 7 → x' ≡ put_label x c (u.word + 1) 6 m
      → marked (c + 1) x' ≡ mark_import t u k (marked c x)
  unfolding mark_import
  import-label m x' e q f = rw (← p, ← q, ← f) (search tests)

pub ruleset importing = (import-none, import-label)

pub import-kept : (t : List ℕ) (u : Span) (k : ℕ) (m : Marked) → length m.table ≡ 1024
    → (length (mark_import t u k m).table ≡ 1024) × ((mark_import t u k m).count ≤ m.count + 1)
unfolding mark_import
import-kept t u k m l =
    either-eq (λ (y : Marked). (length y.table ≡ 1024) × (y.count ≤ m.count + 1)) _ 0 _ _ (λ _. (l, omega arith))
    (λ _. (length_label m.table m.count (u.word + 1) 6 _ l, omega arith))

-- so many labels may stand before an import
pub import-fits : (t : List ℕ) (u : Span) (k c : ℕ) (s : Marks) (x x' : List ℕ) → length x ≡ 1024 → u.word ≤ 4097 → s.labels ≤ 4097
    → marked c x' ≡ mark_before t u k s x → c < 4294967295
import-fits t u k c s x x' l h g e = omega (arith, (before-kept t u k s x l).1, ap (λ (m : Marked). m.count) e)

pub unit-is : (t : List ℕ) (u : Span) (k c r : ℕ) (s : Marks) (x x' x'' : List ℕ) → marked c x' ≡ mark_before t u k s x → marked r x'' ≡ mark_import t u k (marked c x')
    → marked r x'' ≡ mark_unit t u k s x
unfolding mark_unit
unit-is t u k c r s x x' x'' e q = q ∙ ap (mark_import t u k) e

pub unit_kept : (t : List ℕ) (u : Span) (k : ℕ) (s : Marks) (x : List ℕ) → length x ≡ 1024
    → (length (mark_unit t u k s x).table ≡ 1024) × ((mark_unit t u k s x).count ≤ s.labels + (u.word - u.first) + 1)
unfolding mark_unit
unit_kept t u k s x l =
    let b = before-kept t u k s x l in
    let i = import-kept t u k (mark_before t u k s x) b.0 in
    (i.0, omega (arith, b.1, i.1))
