-- The loops: what is left gives the whole answer.
-- Assumes nothing.
use mathlib.Core.Path.{◌≡◌, refl, sym, ◌∙◌, ap}
use mathlib.Core.Bool.{Bool}
use mathlib.Core.List.{List}
use Prim.Native.Nat.{ℕ, zero, suc, ◌+◌, ◌-◌, ◌<◌, ◌≤◌, min}
use native.Mathlib.Omega.{arith}
use lib.ListN.{length, length-set}
use Rattle.base_prelude.specs.Fault.{none}
use Rattle.base_prelude.proofs.Choice.{either, either-eq}
use Rattle.res_scope.specs.declared.Meaning.{Meaning}
use Rattle.res_scope.specs.declared.Meaning.TheVariants.{Let, Parameter, Label, Unknown}
use Rattle.res_scope.specs.declared.Parts.{Parts}
use Rattle.base_prelude.specs.Lists.{zeros, cleared_from}
use Rattle.res_names.specs.Naming.{Naming, naming, judged, mark_use, use_of, parameter_fault, label_fault, value_part, operands_part, callee_part, set_part, goto_part, head_part, body_part, parameters_fault, statement_part, statements_part, labels_fault, names_of}

-- ---- the table of uses keeps its length

mark-long : (i j : ℕ) (u : List ℕ) → length (mark_use i j u) ≡ length u
unfolding mark_use
mark-long i j u =
    either (λ (v : List ℕ). length v ≡ length u) j (length u) _ _
    (λ _. either-eq (λ (v : List ℕ). length v ≡ length u) _ 0 _ _ (λ _. length-set u j i) (λ _. refl)) (λ _. refl)

use-long : (i : ℕ) (m : Meaning) (u : List ℕ) → length (use_of i m u) ≡ length u
unfolding use_of
use-long i (Let j) u = refl
use-long i (Parameter j) u = refl
use-long i (Label j) u = mark-long i j u
use-long i Unknown u = refl

judged-long : (i f : ℕ) (m : Meaning) (x : Naming) → length (judged i f m x).uses ≡ length x.uses
unfolding judged
judged-long i f m x = use-long i m x.uses

abbrev Long : Naming → Naming → Type 0
Long x z = length z.uses ≡ length x.uses

module _ (same : ℕ → ℕ → Bool) (t : List ℕ) (n : ℕ) (k y : List ℕ) (l r : ℕ) where
  value-long : (i : ℕ) (x : Naming) → Long x (value_part same t n k y l r i x)
  unfolding value_part
  value-long i x =
      either-eq (Long x) _ 3 _ _ (λ _. judged-long i _ _ x) (λ _. either-eq (Long x) _ 5 _ _ (λ _. judged-long i _ _ x) (λ _. refl))

  operands-long : (left i : ℕ) (x : Naming) → Long x (operands_part left same t n k y l r i x)
  unfolding operands_part
  operands-long zero i x = refl
  operands-long (suc left) i x = operands-long left (i + 1) (value_part same t n k y l r i x) ∙ value-long i x

  callee-long : (i count : ℕ) (x : Naming) → Long x (callee_part same t n k y l r i count x)
  unfolding callee_part
  callee-long i count x = either-eq (Long x) i 0 _ _ (λ _. refl) (λ _. judged-long i _ _ x)

  head-long : (kind : ℕ) (x : Naming) → Long x (head_part same t n k y l r kind x)
  unfolding head_part set_part goto_part
  head-long kind x =
      either-eq (Long x) kind 6 _ _ (λ _. judged-long _ _ _ x) (λ _.
      either-eq (Long x) kind 7 _ _ (λ _. value-long _ x) (λ _.
      either-eq (Long x) kind 10 _ _ (λ _. judged-long _ _ _ x) (λ _. refl)))

  body-long : (p : Parts) (next : ℕ) (x : Naming) → Long x (body_part same t n k y l r p next x)
  unfolding body_part
  body-long p next x = operands-long (next - p.first) p.first _ ∙ callee-long p.callee _ x

  statement-long : (x : Naming) → Long x (statement_part same t n k y l r x)
  unfolding statement_part
  statement-long x = body-long _ _ _ ∙ head-long _ _

-- ---- operands

pub record Operands (same : ℕ → ℕ → Bool) (t : List ℕ) (n : ℕ) (k y : List ℕ) (l r first next start : ℕ) (u₀ : List ℕ) (best i : ℕ) (u : List ℕ) : Type 0 where
  pub long : length u ≡ length u₀
  pub rest : operands_part (next - i) same t n k y l r i (naming best u) ≡ operands_part (next - first) same t n k y l r first (naming start u₀)

module _ (same : ℕ → ℕ → Bool) (t : List ℕ) (n : ℕ) (k y : List ℕ) (l r first next start : ℕ) (u₀ : List ℕ) where
  pub operands-start : Operands same t n k y l r first next start u₀ start first u₀
  operands-start = record { long = refl; rest = refl }

  operand_step : (left i : ℕ) (x : Naming) → operands_part (suc left) same t n k y l r i x ≡ operands_part left same t n k y l r (i + 1) (value_part same t n k y l r i x)
  unfolding operands_part
  operand_step left i x = refl

  operand-end : (i : ℕ) (x : Naming) → operands_part 0 same t n k y l r i x ≡ x
  unfolding operands_part
  operand-end i x = refl

  module _ (best i : ℕ) (u : List ℕ) (h : Operands same t n k y l r first next start u₀ best i u) where
    pub operands-more : (x : ℕ) (v : List ℕ) → i < next → naming x v ≡ value_part same t n k y l r i (naming best u) → Operands same t n k y l r first next start u₀ x (i + 1) v
    operands-more x v g e =
        let q : next - i ≡ suc (next - (i + 1)) = omega arith in
        record {
          long = ap (λ (z : Naming). length z.uses) e ∙ value-long same t n k y l r i (naming best u) ∙ h.long;
          rest = ap (λ (z : Naming). operands_part (next - (i + 1)) same t n k y l r (i + 1) z) e ∙ sym (ap (λ (j : ℕ). operands_part j same t n k y l r i (naming best u)) q ∙ operand_step (next - (i + 1)) i (naming best u)) ∙ h.rest;
        }

    pub operands_same : length u ≡ length u₀
    operands_same = h.long

    pub operands-done : next ≤ i → naming best u ≡ operands_part (next - first) same t n k y l r first (naming start u₀)
    operands-done g =
        let q : next - i ≡ 0 = omega arith in
        sym (ap (λ (j : ℕ). operands_part j same t n k y l r i (naming best u)) q ∙ operand-end i (naming best u)) ∙ h.rest

pub ruleset operands = (operands-start, operands-more, operands-done)

-- ---- statements

pub record Statements (same : ℕ → ℕ → Bool) (t : List ℕ) (n : ℕ) (k y : List ℕ) (l c start : ℕ) (u₀ : List ℕ) (best r : ℕ) (u : List ℕ) : Type 0 where
  pub within : r ≤ c
  pub long : length u ≡ length u₀
  pub rest : statements_part (c - r) same t n k y l r (naming best u) ≡ statements_part c same t n k y l 0 (naming start u₀)

module _ (same : ℕ → ℕ → Bool) (t : List ℕ) (n : ℕ) (k y : List ℕ) (l c start : ℕ) (u₀ : List ℕ) where
  pub statements-start : Statements same t n k y l c start u₀ start 0 u₀
  statements-start =
      let q : c - 0 ≡ c = omega arith in
      record { within = omega arith; long = refl; rest = ap (λ (j : ℕ). statements_part j same t n k y l 0 (naming start u₀)) q }

  statement-step : (left r : ℕ) (x : Naming) → statements_part (suc left) same t n k y l r x ≡ statements_part left same t n k y l (r + 1) (statement_part same t n k y l r x)
  unfolding statements_part
  statement-step left r x = refl

  statement-end : (r : ℕ) (x : Naming) → statements_part 0 same t n k y l r x ≡ x
  unfolding statements_part
  statement-end r x = refl

  module _ (best r : ℕ) (u : List ℕ) (h : Statements same t n k y l c start u₀ best r u) where
    pub statements-more : (x : ℕ) (v : List ℕ) → r < c → naming x v ≡ statement_part same t n k y l r (naming best u) → Statements same t n k y l c start u₀ x (r + 1) v
    statements-more x v g e =
        let q : c - r ≡ suc (c - (r + 1)) = omega arith in
        record {
          within = omega arith;
          long = ap (λ (z : Naming). length z.uses) e ∙ statement-long same t n k y l r (naming best u) ∙ h.long;
          rest = ap (λ (z : Naming). statements_part (c - (r + 1)) same t n k y l (r + 1) z) e ∙ sym (ap (λ (j : ℕ). statements_part j same t n k y l r (naming best u)) q ∙ statement-step (c - (r + 1)) r (naming best u)) ∙ h.rest;
        }

    pub statements-same : length u ≡ length u₀
    statements-same = h.long

    pub statements-done : c ≤ r → naming best u ≡ statements_part c same t n k y l 0 (naming start u₀)
    statements-done g =
        let q : c - r ≡ 0 = omega arith in
        sym (ap (λ (j : ℕ). statements_part j same t n k y l r (naming best u)) q ∙ statement-end r (naming best u)) ∙ h.rest

pub ruleset statements = (statements-start, statements-more, statements-done)

-- ---- parameters and labels

pub record Parameters (same : ℕ → ℕ → Bool) (t : List ℕ) (n : ℕ) (k : List ℕ) (r first end start best q : ℕ) : Type 0 where
  pub rest : parameters_fault (end - q) same t n k r q best ≡ parameters_fault (end - first) same t n k r first start

module _ (same : ℕ → ℕ → Bool) (t : List ℕ) (n : ℕ) (k : List ℕ) (r first end start : ℕ) where
  pub parameters-start : Parameters same t n k r first end start start first
  parameters-start = record { rest = refl }

  module _ (best q : ℕ) (h : Parameters same t n k r first end start best q) where
    pub parameters-more : (z x : ℕ) → q < end → z ≡ parameter_fault same t n k r q → x ≡ min best z → Parameters same t n k r first end start x (q + 1)
    unfolding parameters_fault
    parameters-more z x g e d =
        let p : end - q ≡ suc (end - (q + 1)) = omega arith in
        record { rest = rw (d, e) (rw p at h.rest) }

    pub parameters-done : end ≤ q → best ≡ parameters_fault (end - first) same t n k r first start
    unfolding parameters_fault
    parameters-done g = let p : end - q ≡ 0 = omega arith in rw p at h.rest

pub ruleset parameters = (parameters-start, parameters-more, parameters-done)

pub record Labels (same : ℕ → ℕ → Bool) (t : List ℕ) (n : ℕ) (y : List ℕ) (l best j : ℕ) : Type 0 where
  pub within : j ≤ l
  pub rest : labels_fault (l - j) same t n y l j best ≡ labels_fault l same t n y l 0 none

module _ (same : ℕ → ℕ → Bool) (t : List ℕ) (n : ℕ) (y : List ℕ) (l : ℕ) where
  pub labels-start : Labels same t n y l none 0
  labels-start =
      let q : l - 0 ≡ l = omega arith in
      record { within = omega arith; rest = ap (λ (i : ℕ). labels_fault i same t n y l 0 none) q }

  module _ (best j : ℕ) (h : Labels same t n y l best j) where
    pub labels-more : (z x : ℕ) → j < l → z ≡ label_fault same t n y l j → x ≡ min best z → Labels same t n y l x (j + 1)
    unfolding labels_fault
    labels-more z x g e d =
        let p : l - j ≡ suc (l - (j + 1)) = omega arith in
        record { within = omega arith; rest = rw (d, e) (rw p at h.rest) }

    pub labels-done : l ≤ j → best ≡ labels_fault l same t n y l 0 none
    unfolding labels_fault
    labels-done g = let p : l - j ≡ 0 = omega arith in rw p at h.rest

pub ruleset labels = (labels-start, labels-more, labels-done)

-- ---- the whole

pub names-are : (same : ℕ → ℕ → Bool) (t : List ℕ) (n : ℕ) (k y : List ℕ) (l c first x : ℕ) (u v w : List ℕ) → length u ≡ 256 → v ≡ cleared_from u 0
    → first ≡ labels_fault l same t n y l 0 none → naming x w ≡ statements_part c same t n k y l 0 (naming first v) → naming x w ≡ names_of same t n k y l c
unfolding names_of cleared_from
names-are same t n k y l c first x u v w h e d q =
    let z : length u - 0 ≡ 256 = omega arith in
    q ∙ rw d (ap (λ (i : List ℕ). statements_part c same t n k y l 0 (naming (labels_fault l same t n y l 0 none) i)) (e ∙ ap zeros z))
