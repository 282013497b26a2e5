-- The expression kind of a call: that of a function or of an imported one, by what its name means.
-- Assumes nothing.
use mathlib.Core.Path.{◌≡◌, refl, sym, ◌∙◌, ap, subst}
use mathlib.Core.Bool.{Bool, true, false, not}
use mathlib.Core.List.{List}
use mathlib.Core.Logic.{◌⊎◌, inl, inr}
use Prim.Native.Nat.{ℕ, ◌+◌, ◌≤◌, ◌<◌}
use native.Mathlib.Decide.{ℕ_discrete}
use native.Mathlib.Omega.{arith}
use lib.Dec.{eqb}
use borrow.Author.Tests.{eq-eqb, ne_eqb, eqb-true}
use Rattle.base_prelude.specs.Choice.{if_lt, if_eq, if_true}
use Rattle.base_prelude.proofs.Choice.{either, either-eq, either_true, if_eq-yes, if_eq-no, if_true-yes, if_true-no, true-false}
use Rattle.parse_lines.specs.Tokens.{word_at}
use Rattle.parse_shapes.specs.Shapes.{is_name, is_operator}
use Rattle.prog_tables.specs.Tests.{both, one_of}
use Rattle.prog_tables.specs.Statement.{has_expression, is_call_row, is_call, is_import, is_call_expression, expression_uses, used_by}
use Rattle.prog_tables.specs.Faults.{expression_listed, expression_fault}
use Rattle.prog_tables.proofs.Each.{one-no, one-rest, both_false}
use Rattle.res_scope.specs.Names.{meaning_of}
use Rattle.res_scope.specs.Parts.{parts, symbol_parts, expression_parts, return_parts, lists_operands, plain_parts, parts_of}
use Rattle.res_scope.specs.declared.Meaning.{Meaning}
use Rattle.res_scope.specs.declared.Parts.{Parts}
use Rattle.res_rows.specs.Rows.{is_imported, expr_of}

-- ---- kinds of rows and expressions

pub import-no-call : (k : ℕ) → is_call k 3 ≡ false
unfolding is_call if_eq
import-no-call k = refl

pub import-kind : (k e : ℕ) → is_import k e ≡ true → e ≡ 3
unfolding is_import
import-kind k e = either-eq (λ (b : Bool). b ≡ true → e ≡ 3) e 3 _ _ (λ q _. q) (λ _ z. true-false (sym z))

-- a row that calls is a `call`, a `tail-call`, or has an expression that is a call
pub calls_by_lem : (k e : ℕ) → is_call k e ≡ true → (is_call_row k ≡ true) ⊎ ((has_expression k ≡ true) × (e ≡ 2))
unfolding is_call
calls_by_lem k e =
    either-eq (λ (b : Bool). b ≡ true → (is_call_row k ≡ true) ⊎ ((has_expression k ≡ true) × (e ≡ 2))) e 3 _ _ (λ _ z. true-false (sym z)) (λ _.
    either-eq (λ (b : Bool). b ≡ true → (is_call_row k ≡ true) ⊎ ((has_expression k ≡ true) × (e ≡ 2))) k 11 _ _
    (λ q _. inl (ap (λ (b : Bool). one_of b (eqb k 12)) (eq-eqb k 11 q))) (λ d.
    either-eq (λ (b : Bool). b ≡ true → (is_call_row k ≡ true) ⊎ ((has_expression k ≡ true) × (e ≡ 2))) k 12 _ _
    (λ q _. inl (ap (λ (b : Bool). one_of b (eqb k 12)) (ne_eqb k 11 d) ∙ eq-eqb k 12 q)) (λ _.
    either_true (λ (b : Bool). b ≡ true → (is_call_row k ≡ true) ⊎ ((has_expression k ≡ true) × (e ≡ 2))) (has_expression k) _ _
    (λ h z. inr (h, eqb-true e 2 z)) (λ _ z. true-false (sym z)))))

import-row : (k e : ℕ) → is_call k e ≡ true → is_import k 3 ≡ true
unfolding is_import
import-row k e h = if_eq-yes _ _ refl ∙ by (calls_by_lem k e h)
  where
    by : (is_call_row k ≡ true) ⊎ ((has_expression k ≡ true) × (e ≡ 2)) → if_true (is_call_row k) true (has_expression k) ≡ true
    by (inl a) = if_true-yes _ _ a
    by (inr a) = either_true (λ (b : Bool). b ≡ true) (is_call_row k) _ _ (λ _. refl) (λ _. a.0)

two-uses : (n : ℕ) → expression_uses 3 n ≡ expression_uses 2 n
unfolding expression_uses if_eq
two-uses n = refl

row-bare : (k : ℕ) → is_call_row k ≡ true → has_expression k ≡ false
unfolding has_expression if_lt if_eq
row-bare k =
    elim (ℕ_discrete k 11) [
      | yes e ↦ (λ _. rw e refl)
      | no d ↦ elim (ℕ_discrete k 12) [
        | yes e ↦ (λ _. rw e refl)
        | no f ↦ (λ z. true-false (sym z ∙ ap (λ (b : Bool). one_of b (eqb k 12)) (ne_eqb k 11 d) ∙ ne_eqb k 12 f))
      ]
    ]

used-import : (k e n : ℕ) → is_call k e ≡ true → used_by k 3 n ≡ used_by k e n
unfolding used_by
used-import k e n h = by (calls_by_lem k e h)
  where
    by : (is_call_row k ≡ true) ⊎ ((has_expression k ≡ true) × (e ≡ 2)) → used_by k 3 n ≡ used_by k e n
    by (inl a) = if_true-no _ _ (row-bare k a) ∙ sym (if_true-no _ _ (row-bare k a))
    by (inr a) = if_true-yes _ _ a.0 ∙ two-uses n ∙ ap (λ (v : ℕ). expression_uses v n) (sym a.1) ∙ sym (if_true-yes _ _ a.0)

fault-import : (k : ℕ) → expression_fault k 3 ≡ false
unfolding expression_listed is_call_expression if_eq if_true
fault-import k = by (is_call_row k) (has_expression k)
  where
    by : (a b : Bool) → one_of (both a false) (both b false) ≡ false
    by true true = refl
    by true false = refl
    by false true = refl
    by false false = refl

-- a row without a call and without an expression calls nothing
pub plain_quiet : (k e : ℕ) → one_of (has_expression k) (is_call_row k) ≡ false → is_call k e ≡ false
plain_quiet k e h = by (is_call k e) refl
  where
    by : (b : Bool) → is_call k e ≡ b → b ≡ false
    by false q = refl
    by true q = row (calls_by_lem k e q)
      where
        row : (is_call_row k ≡ true) ⊎ ((has_expression k ≡ true) × (e ≡ 2)) → true ≡ false
        row (inl a) = sym a ∙ one-rest (has_expression k) (is_call_row k) h
        row (inr a) = sym a.0 ∙ one-no (has_expression k) (is_call_row k) h

-- ---- the parts of a statement hold no call of an imported function yet

abbrev Plain : Parts → Type 0
Plain p = p.expr ≡ 3 → ⊥

symbol-plain : (w i : ℕ) → Plain (symbol_parts w i)
unfolding symbol_parts is_operator
symbol-plain w i =
    either-eq Plain w 14 _ _ (λ _ e. let z : ⊥ = omega arith in z) (λ _.
    either_true Plain (if_lt w 33 false (if_lt w 52 true false)) _ _ (λ h e. high e h) (λ _ e. let z : ⊥ = omega arith in z))
  where
    high : w ≡ 3 → if_lt w 33 false (if_lt w 52 true false) ≡ true → ⊥
    high e = either (λ (b : Bool). b ≡ true → ⊥) w 33 _ _ (λ _ z. true-false (sym z)) (λ l _. let z : ⊥ = omega arith in z)

expression-plain : (t : List ℕ) (i : ℕ) → Plain (expression_parts t i)
unfolding expression_parts
expression-plain t i =
    either_true Plain (is_name t i) _ _ (λ _. symbol-plain (word_at t i) i) (λ _ e. let z : ⊥ = omega arith in z)

return-plain : (t : List ℕ) (i next : ℕ) → Plain (return_parts t i next)
unfolding return_parts
return-plain t i next = either Plain i next _ _ (λ _. expression-plain t i) (λ _ e. let z : ⊥ = omega arith in z)

rest_plain : (k i next : ℕ) → Plain (plain_parts k i next)
unfolding plain_parts
rest_plain k i next =
    either_true Plain (lists_operands k) _ _ (λ _ e. let z : ⊥ = omega arith in z) (λ _.
    either-eq Plain k 11 _ _ (λ _ e. let z : ⊥ = omega arith in z) (λ _.
    either-eq Plain k 12 _ _ (λ _ e. let z : ⊥ = omega arith in z) (λ _ e. let z : ⊥ = omega arith in z)))

pub parts-plain : (t : List ℕ) (k i next : ℕ) → (parts_of t k i next).expr ≡ 3 → ⊥
unfolding parts_of
parts-plain t k i next =
    either-eq Plain k 13 _ _ (λ _. return-plain t (i + 1) next) (λ _.
    either Plain k 5 _ _ (λ _ e. let z : ⊥ = omega arith in z) (λ _.
    either Plain k 8 _ _ (λ _. expression-plain t (i + 2)) (λ _. rest_plain k i next)))

-- ---- the expression kind of a row

module _ (same : ℕ → ℕ → Bool) (k y : List ℕ) (l r kind : ℕ) (p : Parts) where
  abbrev pub expr : ℕ
  expr = expr_of same k y l r p.expr p.callee

  abbrev pub imported : Bool
  imported = is_imported y (meaning_of same k y l r p.callee)

  expr-none : p.callee ≡ 0 → expr ≡ p.expr
  unfolding expr_of
  expr-none e = if_eq-yes _ _ e

  expr-function : (p.callee ≡ 0 → ⊥) → imported ≡ false → expr ≡ p.expr
  unfolding expr_of
  expr-function d e = if_eq-no _ _ d ∙ if_true-no _ _ e

  pub expr-import : (p.callee ≡ 0 → ⊥) → imported ≡ true → expr ≡ 3
  unfolding expr_of
  expr-import d e = if_eq-no _ _ d ∙ if_true-yes _ _ e

  module _ (uncalled : is_call kind p.expr ≡ false → p.callee ≡ 0) where
    called : (p.callee ≡ 0 → ⊥) → is_call kind p.expr ≡ true
    called d = by (is_call kind p.expr) refl
      where
        by : (b : Bool) → is_call kind p.expr ≡ b → b ≡ true
        by true e = refl
        by false e = absurd (d (uncalled e))

    -- that of its parts, or a call of an imported function
    pub expr-cases : (expr ≡ p.expr) ⊎ ((expr ≡ 3) × ((p.callee ≡ 0 → ⊥) × ((imported ≡ true) × (is_call kind p.expr ≡ true))))
    expr-cases =
        elim (ℕ_discrete p.callee 0) [
          | yes e ↦ inl (expr-none e)
          | no d ↦ by d imported refl
        ]
      where
        by : (p.callee ≡ 0 → ⊥) → (b : Bool) → imported ≡ b → (expr ≡ p.expr) ⊎ ((expr ≡ 3) × ((p.callee ≡ 0 → ⊥) × ((imported ≡ true) × (is_call kind p.expr ≡ true))))
        by d true e = inr (expr-import d e, (d, (e, called d)))
        by d false e = inl (expr-function d e)

    pub used-expr : (n : ℕ) → used_by kind expr n ≡ used_by kind p.expr n
    used-expr n = by expr-cases
      where
        by : (expr ≡ p.expr) ⊎ ((expr ≡ 3) × ((p.callee ≡ 0 → ⊥) × ((imported ≡ true) × (is_call kind p.expr ≡ true)))) → used_by kind expr n ≡ used_by kind p.expr n
        by (inl e) = ap (λ (v : ℕ). used_by kind v n) e
        by (inr e) = ap (λ (v : ℕ). used_by kind v n) e.0 ∙ used-import kind p.expr n e.1.1.1

    pub fault-expr : expression_fault kind p.expr ≡ false → expression_fault kind expr ≡ false
    fault-expr h = by expr-cases
      where
        by : (expr ≡ p.expr) ⊎ ((expr ≡ 3) × ((p.callee ≡ 0 → ⊥) × ((imported ≡ true) × (is_call kind p.expr ≡ true)))) → expression_fault kind expr ≡ false
        by (inl e) = ap (λ (v : ℕ). expression_fault kind v) e ∙ h
        by (inr e) = ap (λ (v : ℕ). expression_fault kind v) e.0 ∙ fault-import kind

    -- a call of a function: its name is not imported
    pub function-call : is_call kind expr ≡ true → (is_call kind p.expr ≡ true) × ((p.callee ≡ 0 → ⊥) → imported ≡ false)
    function-call h = by expr-cases
      where
        none : (p.callee ≡ 0 → ⊥) → (b : Bool) → imported ≡ b → b ≡ false
        none d false e = refl
        none d true e = true-false (sym h ∙ ap (is_call kind) (expr-import d e) ∙ import-no-call kind)

        by : (expr ≡ p.expr) ⊎ ((expr ≡ 3) × ((p.callee ≡ 0 → ⊥) × ((imported ≡ true) × (is_call kind p.expr ≡ true))))
            → (is_call kind p.expr ≡ true) × ((p.callee ≡ 0 → ⊥) → imported ≡ false)
        by (inl e) = (ap (is_call kind) (sym e) ∙ h, λ d. none d imported refl)
        by (inr e) = true-false (sym h ∙ ap (is_call kind) e.0 ∙ import-no-call kind)

    -- a call of an imported function
    pub import-call : (p.expr ≡ 3 → ⊥) → is_import kind expr ≡ true → (p.callee ≡ 0 → ⊥) × ((imported ≡ true) × (is_call kind p.expr ≡ true))
    import-call d h = by expr-cases
      where
        by : (expr ≡ p.expr) ⊎ ((expr ≡ 3) × ((p.callee ≡ 0 → ⊥) × ((imported ≡ true) × (is_call kind p.expr ≡ true))))
            → (p.callee ≡ 0 → ⊥) × ((imported ≡ true) × (is_call kind p.expr ≡ true))
        by (inl e) = absurd (d (sym e ∙ import-kind kind expr h))
        by (inr e) = e.1

    -- a row that calls nothing names nothing
    pub quiet-callee : is_call kind expr ≡ false → is_import kind expr ≡ false → p.callee ≡ 0
    quiet-callee a b = by expr-cases
      where
        by : (expr ≡ p.expr) ⊎ ((expr ≡ 3) × ((p.callee ≡ 0 → ⊥) × ((imported ≡ true) × (is_call kind p.expr ≡ true)))) → p.callee ≡ 0
        by (inl e) = uncalled (ap (is_call kind) (sym e) ∙ a)
        by (inr e) = true-false (sym (import-row kind p.expr e.1.1.1) ∙ ap (is_import kind) (sym e.0) ∙ b)

    pub plain-expr : one_of (has_expression kind) (is_call_row kind) ≡ false → expr ≡ p.expr
    plain-expr h = expr-none (uncalled (plain_quiet kind p.expr h))
