-- The tests of a row on its names, from its faults: none.
-- Assumes nothing.
use mathlib.Core.Path.{◌≡◌, refl, sym, ◌∙◌, ap, ap₂, subst}
use mathlib.Core.Bool.{Bool, true, false, not}
use mathlib.Core.List.{List, [], ◌∷◌, ◌++◌}
use mathlib.Core.Logic.{◌⊎◌, inl, inr, ⊎_elim}
use Prim.Native.Nat.{ℕ, zero, suc, ◌+◌, ◌*◌, ◌-◌, ◌≤◌, ◌<◌, min}
use native.Mathlib.Decide.{dec_lt, ℕ_discrete}
use native.Mathlib.Omega.{arith}
use lib.Dec.{eqb, ltb, leb}
use lib.ListN.{length, get_or}
use borrow.Author.Tests.{eq-eqb, ne_eqb, ltb-true, lt-ltb, le-leb}
use Rattle.base_prelude.specs.Choice.{pick, if_lt, if_eq, if_true}
use Rattle.base_prelude.specs.Fault.{none}
use Rattle.base_prelude.proofs.Choice.{either-eq, either_true, if_eq-yes, if_eq-no, true-false}
use Rattle.parse_lines.specs.Tokens.{kind_at, value_at}
use Rattle.prog_tables.proofs.Each.{both_left, both_right, both_true}
use Rattle.prog_tables.specs.Tests.{both, one_of, given, all, all_of, some_below}
use Rattle.prog_tables.specs.Statement.{Row, row_at, is_call, is_import, has_expression, used_by}
use Rattle.prog_tables.specs.Frames.{in_scope}
use Rattle.prog_tables.specs.Label.{Label, is_data, is_function_label}
use Rattle.prog_tables.specs.Faults.{address_listed, expression_fault}
use Rattle.prog_tables.specs.WellFormed.{labelled, jumps, function_calls, import_calls, calls, forward_calls, shaped, has_operands, operand_good, operands_good, address_good, sets_local}
use Rattle.prog_tables.specs.declared.Operand.{Operand}
use Rattle.prog_tables.specs.declared.Operand.TheVariants.{Constant, Local, Address, AtConstant, AtLocal, AtAddress, Unlisted}
use Rattle.prog_tables.specs.Program.{Program}
use Rattle.res_scope.specs.Lines.{first_token, end_token, label_kind, label_statement}
use Rattle.res_scope.specs.Names.{meaning_of}
use Rattle.res_scope.specs.Parts.{parts_of}
use Rattle.res_scope.specs.declared.Parts.{Parts}
use Rattle.res_names.specs.Naming.{value_fault, set_fault, callee_fault, goto_fault}
use Rattle.parse_verdict.specs.Verdict.{All, Clean}
use Rattle.thm_acceptance.specs.Faults.{operand_fault, operand_faults, callee_faults, declared_faults, head_faults, body_faults, statement_faults, statements_faults, label_faults, all_name_faults}
use Rattle.res_rows.specs.Rows.{label_target, callee_target, is_imported, expr_of, local_word, plain_operand, at_operand, constant_operand, token_operand, address_constant, address_operand, operands_from, aOf, callee_of, address_of, row_with, row_of}
use Rattle.thm_statement_rows.proofs.Meanings.{From, meaning-from}
use Rattle.thm_statement_rows.proofs.Operands.{Known, plain-good, at-good, plain-listed, set-scope, label-named, callee-good, import-good, goto-good}
use Rattle.thm_statement_rows.proofs.Calls.{used-expr, fault-expr, function-call, import-call, parts-plain}
use Rattle.thm_statement_rows.proofs.Views.{viewing}

-- q where the test holds
pub given_yes : (a : ℕ) (v : ℕ) (b : Bool) → (a ≡ v → b ≡ true) → given (eqb a v) b ≡ true
given_yes a v b h =
    elim (ℕ_discrete a v) [ yes e ↦ ap (λ (x : Bool). given x b) (eq-eqb a v e) ∙ h e | no d ↦ ap (λ (x : Bool). given x b) (ne_eqb a v d) ]

pub given-true : (a b : Bool) → (a ≡ true → b ≡ true) → given a b ≡ true
given-true true b h = h refl
given-true false b h = refl

used-same : (a a' b b' d d' : ℕ) → a ≡ a' → b ≡ b' → d ≡ d' → used_by a b d ≡ used_by a' b' d'
used-same a a' b b' d d' x y z = rw (x, y, z)

-- ---- lists without a fault

pub clean-left : (xs ys : List ℕ) → Clean (xs ++ ys) → Clean xs
clean-left [] ys h = tt
clean-left (x ∷ xs) ys h = (h.0, clean-left xs ys h.1)

pub clean-right : (xs ys : List ℕ) → Clean (xs ++ ys) → Clean ys
clean-right [] ys h = h
clean-right (x ∷ xs) ys h = clean-right xs ys h.1

module _ (same : ℕ → ℕ → Bool) (t : List ℕ) (n : ℕ) (k y : List ℕ) (l : ℕ) where
  statements-clean : (left r m : ℕ) → Clean (statements_faults left same t n k y l r) → r ≤ m → m < r + left → Clean (statement_faults same t n k y l m)
  unfolding statements_faults
  statements-clean zero r m h a b = let z : ⊥ = omega arith in absurd z
  statements-clean (suc left) r m h a b =
      elim (ℕ_discrete r m) [
        | yes e ↦ subst (λ (v : ℕ). Clean (statement_faults same t n k y l v)) e (clean-left (statement_faults same t n k y l r) _ h)
        | no d ↦ statements-clean left (r + 1) m (clean-right (statement_faults same t n k y l r) _ h) (omega arith) (omega arith)
      ]

  -- the faults of statement m
  pub statement-clean : (c m : ℕ) → Clean (all_name_faults same t n k y l c) → m < c → Clean (statement_faults same t n k y l m)
  unfolding all_name_faults
  statement-clean c m h g = statements-clean c 0 m (clean-right (label_faults l same t n y l 0) _ h) (omega arith) (omega arith)

-- ---- what a statement without a fault says

-- an operand token: a symbol, a substitute, an integer, or `@` and one of these
abbrev pub OperandKind : ℕ → Type 0
OperandKind v = (3 ≤ v) × (v ≤ 8)

module _ (same : ℕ → ℕ → Bool) (t k y : List ℕ) (l : ℕ) (w z : List ℕ) (c : ℕ) (f : ℕ → Row) (h : ℕ → Label) (q : Known same t k y l w z c f h) (prog : Program) (n r : ℕ) (l₀ : r < c) where
  constant-good : (kind v : ℕ) → OperandKind kind → (kind ≡ 3 → ⊥) → (kind ≡ 5 → ⊥) → operand_good (viewing prog f c h l prog.data_length) r (constant_operand kind v) ≡ true
  unfolding constant_operand operand_good
  constant-good kind v o a b =
      either-eq (λ (x : Operand). operand_good (viewing prog f c h l prog.data_length) r x ≡ true) kind 7 _ _ (λ _. refl) (λ d.
      either-eq (λ (x : Operand). operand_good (viewing prog f c h l prog.data_length) r x ≡ true) kind 4 _ _ (λ _. refl) (λ e.
      either-eq (λ (x : Operand). operand_good (viewing prog f c h l prog.data_length) r x ≡ true) kind 8 _ _ (λ _. refl) (λ g.
      either-eq (λ (x : Operand). operand_good (viewing prog f c h l prog.data_length) r x ≡ true) kind 6 _ _ (λ _. refl) (λ i.
      let z : ⊥ = omega arith in absurd z))))

  operand-good : (i : ℕ) → Clean (operand_fault same t n k y l r i) → OperandKind (kind_at t i) → operand_good (viewing prog f c h l prog.data_length) r (token_operand same t k y l w z r i) ≡ true
  unfolding operand_fault token_operand
  operand-good i x o =
      either-eq (λ (v : Operand). operand_good (viewing prog f c h l prog.data_length) r v ≡ true) (kind_at t i) 3 _ _
      (λ e. plain-good same t k y l w z c f h q prog n r i l₀ (meaning_of same k y l r i) (meaning-from same k y l r i) (subst Clean (if_eq-yes _ _ e) x).0)
      (λ d. either-eq (λ (v : Operand). operand_good (viewing prog f c h l prog.data_length) r v ≡ true) (kind_at t i) 5 _ _
      (λ e. at-good same t k y l w z c f h q prog n r i l₀ (meaning_of same k y l r i) (meaning-from same k y l r i) (subst Clean (if_eq-no _ _ d ∙ if_eq-yes _ _ e) x).0)
      (λ e. constant-good (kind_at t i) (value_at t i) o d e))

  operands-good : (left total i : ℕ) → left ≤ total → Clean (operand_faults total same t n k y l r i) → ((j : ℕ) → i ≤ j → j < i + total → OperandKind (kind_at t j))
      → all_of (operand_good (viewing prog f c h l prog.data_length) r) (operands_from left same t k y l w z r i) ≡ true
  unfolding operand_faults operands_from all_of
  operands-good zero total i a x o = refl
  operands-good (suc left) zero i a x o = let z : ⊥ = omega arith in absurd z
  operands-good (suc left) (suc total) i a x o =
      both_true _ _ (operand-good i (clean-left (operand_fault same t n k y l r i) _ x) (o i (omega arith) (omega arith)))
      (operands-good left total (i + 1) (omega arith) (clean-right (operand_fault same t n k y l r i) _ x) (λ j u v. o j (omega arith) (omega arith)))

  abbrev kind : ℕ
  kind = (row_at k r).kind

  abbrev first : ℕ
  first = first_token k r

  abbrev next : ℕ
  next = end_token k r

  abbrev p : Parts
  p = parts_of t (row_at k r).kind (first_token k r) (end_token k r)

  module _ (back : f r ≡ row_of same t k y l w z c r) (x : Clean (statement_faults same t n k y l r)) where
    head-clean : Clean (head_faults same t n k y l r kind (first + 1))
    unfolding statement_faults
    head-clean = clean-left (head_faults same t n k y l r kind (first + 1)) _ (clean-right (declared_faults same t n k r kind) _ x)

    body_clean : Clean (body_faults same t n k y l r p next)
    unfolding statement_faults
    body_clean = clean-right (head_faults same t n k y l r kind (first + 1)) _ (clean-right (declared_faults same t n k r kind) _ x)

    callee-clean : Clean (callee_faults same t n k y l r p.callee (next - p.first))
    unfolding body_faults
    callee-clean = clean-left (callee_faults same t n k y l r p.callee (next - p.first)) _ body_clean

    operands-clean : Clean (operand_faults (next - p.first) same t n k y l r p.first)
    unfolding body_faults
    operands-clean = clean-right (callee_faults same t n k y l r p.callee (next - p.first)) _ body_clean

    kind-is : (f r).kind ≡ kind
    unfolding row_of row_with
    kind-is = ap (λ (v : Row). v.kind) back

    a-is : (f r).a ≡ aOf same k y l w z r kind (first + 1)
    unfolding row_of row_with
    a-is = ap (λ (v : Row). v.a) back

    count-is : (f r).count ≡ next - p.first
    unfolding row_of row_with
    count-is = ap (λ (v : Row). v.count) back

    expr-is : (f r).expr ≡ expr_of same k y l r p.expr p.callee
    unfolding row_of row_with
    expr-is = ap (λ (v : Row). v.expr) back

    callee-is : (f r).callee ≡ callee_of same k y l z r kind p.callee
    unfolding row_of row_with
    callee-is = ap (λ (v : Row). v.callee) back

    address_is : (f r).address ≡ address_of same t k y l w z r kind (first + 1)
    unfolding row_of row_with
    address_is = ap (λ (v : Row). v.address) back

    operands-are : (f r).operands ≡ operands_from (min (next - p.first) 8) same t k y l w z r p.first
    unfolding row_of row_with
    operands-are = ap (λ (v : Row). v.operands) back

    -- every operand is a constant, or a local or data label in scope
    pub operands-pass : ((j : ℕ) → p.first ≤ j → j < next → OperandKind (kind_at t j)) → operands_good (viewing prog f c h l prog.data_length) r ≡ true
    unfolding operands_good
    operands-pass o =
        ap (all_of (operand_good (viewing prog f c h l prog.data_length) r)) operands-are
        ∙ operands-good (min (next - p.first) 8) (next - p.first) p.first (omega arith) operands-clean (λ j u v. o j u (omega arith))

    constant-address : (v m : ℕ) → (v ≡ 6) ⊎ (v ≡ 8) → both (address_listed (address_constant v m)) (operand_good (viewing prog f c h l prog.data_length) r (address_constant v m)) ≡ true
    unfolding address_constant address_listed operand_good
    constant-address v m o =
        either-eq (λ (u : Operand). both (address_listed u) (operand_good (viewing prog f c h l prog.data_length) r u) ≡ true) v 8 _ _ (λ _. refl) (λ d.
        either-eq (λ (u : Operand). both (address_listed u) (operand_good (viewing prog f c h l prog.data_length) r u) ≡ true) v 6 _ _ (λ _. refl) (λ e.
        ⊎_elim (λ a. absurd (e a)) (λ a. absurd (d a)) o))

    address-by : Clean (operand_fault same t n k y l r (first + 1)) → (kind_at t (first + 1) ≡ 5) ⊎ ((kind_at t (first + 1) ≡ 6) ⊎ (kind_at t (first + 1) ≡ 8))
        → both (address_listed (address_operand same t k y l w z r (first + 1))) (operand_good (viewing prog f c h l prog.data_length) r (address_operand same t k y l w z r (first + 1))) ≡ true
    unfolding address_operand operand_fault
    address-by u o =
        either-eq (λ (v : Operand). both (address_listed v) (operand_good (viewing prog f c h l prog.data_length) r v) ≡ true) (kind_at t (first + 1)) 5 _ _
        (λ e.
        let c₀ : none ≤ value_fault t n y (first + 1) (meaning_of same k y l r (first + 1)) = (subst Clean (if_eq-no _ _ (λ d. absurd (omega arith)) ∙ if_eq-yes _ _ e) u).0 in
        both_true _ _ (plain-listed same t k y l w z c f h q prog n r (first + 1) l₀ (meaning_of same k y l r (first + 1)) c₀)
        (plain-good same t k y l w z c f h q prog n r (first + 1) l₀ (meaning_of same k y l r (first + 1)) (meaning-from same k y l r (first + 1)) c₀))
        (λ d. constant-address (kind_at t (first + 1)) (value_at t (first + 1)) (⊎_elim (λ a. absurd (d a)) (λ a. a) o))

    pub address-passes : (kind ≡ 7 → (kind_at t (first + 1) ≡ 5) ⊎ ((kind_at t (first + 1) ≡ 6) ⊎ (kind_at t (first + 1) ≡ 8))) → address_good (viewing prog f c h l prog.data_length) r ≡ true
    unfolding address_good address_of head_faults
    address-passes o =
        given_yes (f r).kind 7 _ (λ e.
        let g : kind ≡ 7 = sym kind-is ∙ e in
        ap (λ (v : Operand). both (address_listed v) (operand_good (viewing prog f c h l prog.data_length) r v)) (address_is ∙ if_eq-yes _ _ g)
        ∙ address-by (subst Clean (if_eq-no _ _ (λ d. absurd (omega arith)) ∙ if_eq-yes _ _ g) head-clean) (o g))

    pub set-passes : sets_local f r ≡ true
    unfolding sets_local aOf head_faults
    set-passes =
        given_yes (f r).kind 6 _ (λ e.
        let g : kind ≡ 6 = sym kind-is ∙ e in
        ap (in_scope f r) (a-is ∙ if_eq-yes _ _ g)
        ∙ set-scope same t k y l w z c f h q prog n r (first + 1) l₀ (meaning_of same k y l r (first + 1)) (meaning-from same k y l r (first + 1)) (subst Clean (if_eq-yes _ _ g) head-clean).0)

    -- "`goto` takes a statement's label in the same function and innermost block."
    pub goto-passes : jumps (viewing prog f c h l prog.data_length) r ≡ true
    unfolding jumps aOf head_faults all
    goto-passes =
        given_yes (f r).kind 10 _ (λ e.
        let g : kind ≡ 10 = sym kind-is ∙ e in
        let m = goto-good same t k y l w z c f h q prog n r (first + 1) l₀ (meaning_of same k y l r (first + 1)) (meaning-from same k y l r (first + 1))
        (subst Clean (if_eq-no _ _ (λ d. absurd (omega arith)) ∙ if_eq-no _ _ (λ d. absurd (omega arith)) ∙ if_eq-yes _ _ g) head-clean).0 in
        let a : (f r).a ≡ label_target z (meaning_of same k y l r (first + 1)) = a-is ∙ if_eq-no _ _ (λ d. absurd (omega arith)) ∙ if_eq-yes _ _ g in
        let b : (f r).a ≡ label_statement y m.0 = a ∙ m.3 in
        let o : label_statement y m.0 < c = q.spots m.0 m.1 m.2 in
        both_true _ _ (lt-ltb (f r).a c (omega (arith, b, o)))
        (both_true _ _ (eq-eqb (f (f r).a).func (f r).func (q.alike.funcs (f r).a ∙ ap (λ (i : ℕ). (row_at k i).func) b ∙ m.4 ∙ sym (q.alike.funcs r)))
        (both_true _ _ (eq-eqb (f (f r).a).scope (f r).scope (q.alike.scopes (f r).a ∙ ap (λ (i : ℕ). (row_at k i).scope) b ∙ m.5 ∙ sym (q.alike.scopes r)))
        (both_true _ _ (ap (labelled h l (λ v. eqb v 5)) a ∙ m.6) refl))))

    -- the callee of a call: where it is named, and what the label is; a row that calls nothing names nothing
    pub record Called : Type 0 where
      pub named : is_call kind p.expr ≡ true → (p.callee ≡ 0 → ⊥) × (kind ≡ 3 → ⊥)
      pub uncalled : is_call kind p.expr ≡ false → p.callee ≡ 0

    module _ (s : Called) where
      target_is : is_call kind p.expr ≡ true → (f r).callee ≡ callee_target y z (meaning_of same k y l r p.callee)
      unfolding callee_of
      target_is g = callee-is ∙ if_eq-no _ _ (s.named g).1 ∙ if_eq-no _ _ (s.named g).0

      callee-sound : is_call kind p.expr ≡ true → none ≤ callee_fault t n k y p.callee (next - p.first) (meaning_of same k y l r p.callee)
      unfolding callee_faults
      callee-sound g = (subst Clean (if_eq-no _ _ (s.named g).0) callee-clean).0

      -- a call of a function: its parts are a call, and its name is not imported
      calling : is_call (f r).kind (f r).expr ≡ true → (is_call kind p.expr ≡ true) × (is_imported y (meaning_of same k y l r p.callee) ≡ false)
      calling e =
          let g = function-call same k y l r kind p s.uncalled (ap₂ is_call (sym kind-is) (sym expr-is) ∙ e) in (g.0, g.1 (s.named g.0).0)

      -- "`call` and `tail-call` take a function label with its parameter count."
      functions-pass : next - p.first ≤ 8 → function_calls (viewing prog f c h l prog.data_length) r ≡ true
      unfolding function_calls all
      functions-pass few =
          given-true (is_call (f r).kind (f r).expr) _ (λ e.
          let g = calling e in
          let m = callee-good same t k y l w z c f h q prog n r p.callee l₀ (next - p.first) (meaning_of same k y l r p.callee) (meaning-from same k y l r p.callee) (callee-sound g.0) g.1 in
          let a : (f r).callee ≡ callee_target y z (meaning_of same k y l r p.callee) = target_is g.0 in
          let b : (f r).callee ≡ label_statement y m.0 = a ∙ m.3 in
          let o = q.callees m.0 m.1 m.2 in
          let v : (f (f r).callee).kind ≡ 1 = q.alike.kinds (f r).callee ∙ ap (λ (i : ℕ). (row_at k i).kind) b ∙ o.1 in
          let u : (f (f r).callee).b ≡ (f r).count = q.alike.counts (f r).callee (λ d. absurd (omega (arith, v))) ∙ ap (λ (i : ℕ). (row_at k i).b) b ∙ m.4 ∙ sym count-is in
          both_true _ _ (lt-ltb (f r).callee c (omega (arith, b, o.0)))
          (both_true _ _ (eq-eqb (f (f r).callee).kind 1 v)
          (both_true _ _ (eq-eqb (f (f r).callee).b (f r).count u)
          (both_true _ _ (le-leb (f r).count 8 (omega (arith, few, count-is)))
          (both_true _ _ (ap (labelled h l is_function_label) a ∙ m.5) refl)))))

      -- "a call to such a name", with its argument count
      imports-pass : next - p.first ≤ 8 → import_calls (viewing prog f c h l prog.data_length) r ≡ true
      unfolding import_calls all
      imports-pass few =
          given-true (is_import (f r).kind (f r).expr) _ (λ e.
          let g = import-call same k y l r kind p s.uncalled (parts-plain t kind first next) (ap₂ is_import (sym kind-is) (sym expr-is) ∙ e) in
          let m = import-good same t k y l w z c f h q prog n r p.callee l₀ (next - p.first) (meaning_of same k y l r p.callee) (meaning-from same k y l r p.callee) (callee-sound g.1.1) g.1.0 in
          let a : (f r).callee ≡ m.0 = target_is g.1.1 ∙ m.2 in
          both_true _ _ (lt-ltb (f r).callee l (omega (arith, a, m.1)))
          (both_true _ _ (eq-eqb (h (f r).callee).kind 6 (ap (λ (i : ℕ). (h i).kind) a ∙ m.3))
          (both_true _ _ (eq-eqb (h (f r).callee).arguments (f r).count (ap (λ (i : ℕ). (h i).arguments) a ∙ m.4 ∙ sym count-is))
          (both_true _ _ (le-leb (f r).count 8 (omega (arith, few, count-is))) refl))))

      pub calls-pass : next - p.first ≤ 8 → calls (viewing prog f c h l prog.data_length) r ≡ true
      unfolding calls
      calls-pass few = both_true _ _ (functions-pass few) (imports-pass few)

      -- a forward call is by a label that is not exported
      pub forward-passes : forward_calls (viewing prog f c h l prog.data_length) r ≡ true
      unfolding forward_calls
      forward-passes =
          given-true (both (is_call (f r).kind (f r).expr) (ltb r (f r).callee)) _ (λ e.
          let g = calling (both_left (is_call (f r).kind (f r).expr) (ltb r (f r).callee) e) in
          let m = callee-good same t k y l w z c f h q prog n r p.callee l₀ (next - p.first) (meaning_of same k y l r p.callee) (meaning-from same k y l r p.callee) (callee-sound g.0) g.1 in
          let a : (f r).callee ≡ label_statement y m.0 = target_is g.0 ∙ m.3 in
          let b : r < label_statement y m.0 = omega (arith, a, ltb-true r (f r).callee (both_right (is_call (f r).kind (f r).expr) (ltb r (f r).callee) e)) in
          let d : (h m.0).kind ≡ 3 = q.forward r m.0 l₀ m.1 g.0 m.6 m.2 b in
          ap (labelled h l (λ v. eqb v 3)) (a ∙ sym (q.functions m.0 m.1 m.2).1) ∙ label-named same t k y l w z c f h q (λ v. eqb v 3) m.0 m.1 (eq-eqb _ _ d))

      -- as many operands as the expression or statement takes
      pub shape-passes : expression_fault kind p.expr ≡ false → (has_operands kind ≡ true → used_by kind p.expr (next - p.first) ≡ next - p.first)
          → shaped f r ≡ true
      unfolding shaped
      shape-passes a b =
          both_true _ _
          (ap not (ap₂ (λ (k e : ℕ). expression_fault k e) kind-is expr-is ∙ fault-expr same k y l r kind p s.uncalled a))
          (given-true (has_operands (f r).kind) _ (λ e.
          eq-eqb (f r).count (used_by (f r).kind (f r).expr (f r).count)
          (count-is ∙ sym (b (ap has_operands (sym kind-is) ∙ e)) ∙ sym (used-expr same k y l r kind p s.uncalled (next - p.first))
          ∙ sym (used-same (f r).kind kind (f r).expr (expr_of same k y l r p.expr p.callee) (f r).count (next - p.first) kind-is expr-is count-is))))
