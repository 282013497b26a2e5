-- The tests of a row on frames and targets.
-- Assumes nothing.
use mathlib.Core.Path.{◌≡◌, refl, sym, ◌∙◌, ap, ap₂, subst}
use mathlib.Core.Bool.{Bool, true, false}
use mathlib.Core.List.{List, [], ◌∷◌}
use Prim.Native.Nat.{ℕ, zero, suc, ◌+◌, ◌*◌, ◌-◌, ◌%◌, ◌≤◌, ◌<◌}
use native.Mathlib.Nat.{mod-eq_of_lt}
use native.Mathlib.Decide.{ℕ_discrete, dec_lt}
use native.Mathlib.Omega.{arith}
use lib.Dec.{eqb}
use lib.ListN.{get_or}
use borrow.Author.Tests.{eq-eqb, ne_eqb}
use Rattle.base_prelude.specs.Choice.{if_lt, if_eq, if_true}
use Rattle.base_prelude.proofs.Choice.{either, either-eq, either_true, if_eq-yes, if_eq-no, true-false}
use Rattle.prog_tables.proofs.Each.{both_true}
use Rattle.prog_tables.specs.Tests.{both, given, all}
use Rattle.prog_tables.specs.Statement.{Row, row_at, is_test}
use Rattle.prog_tables.specs.Nesting.{has_target, target_of}
use Rattle.prog_tables.specs.Frames.{frame_size, block_word, let_word, lets_before, locals_at}
use Rattle.prog_tables.specs.WellFormed.{aimed, framed}
use Rattle.res_scope.specs.Lines.{first_token, end_token}
use Rattle.res_scope.specs.Parts.{parts_of}
use Rattle.res_scope.specs.declared.Parts.{Parts}
use Rattle.res_frame_words.specs.Framing.{words_of}
use Rattle.res_rows.specs.Rows.{aOf, bOf, callee_of, row_with, row_of}
use Rattle.thm_statement_rows.proofs.Views.{Alike, lets-same, target-same, block_same, let-same, size_same, locals_same}
use Rattle.thm_statement_rows.proofs.Frames.{word-function, word-block, word_end_lem, word-let, word-target, locals-low}
use Rattle.thm_statement_rows.proofs.Statements.{given_yes, given-true}
use Rattle.prog_tables.proofs.Ranges.{test-least}

target-high : (v : ℕ) → has_target v ≡ true → 14 ≤ v
unfolding has_target
target-high v =
    either_true (λ (b : Bool). b ≡ true → 14 ≤ v) (is_test v) _ _ (λ e _. test-least v e) (λ _.
    either-eq (λ (b : Bool). b ≡ true → 14 ≤ v) v 20 _ _ (λ e _. omega arith) (λ _ h. jump-high v h))
  where
    jump-high : (v : ℕ) → eqb v 21 ≡ true → 14 ≤ v
    jump-high v h =
        elim (ℕ_discrete v 21) [ yes e ↦ omega arith | no d ↦ true-false (sym h ∙ ne_eqb v 21 d) ]

module _ (same : ℕ → ℕ → Bool) (t k y : List ℕ) (l : ℕ) (z : List ℕ) (c : ℕ) (f : ℕ → Row) (hc : c ≤ 1024) (few : (i : ℕ) → (row_at k i).b ≤ 8) (al : Alike f (row_at k)) (r : ℕ) (l₀ : r < c)
    (outside : (f (f r).func).kind ≡ 3 → ⊥) (back : f r ≡ row_of same t k y l (words_of (row_at k) c) z c r) where
  abbrev kind : ℕ
  kind = (row_at k r).kind

  kind-is : (f r).kind ≡ (row_at k r).kind
  kind-is = al.kinds r

  -- where the row is no `set` and no `goto`
  a-is : ((row_at k r).kind ≡ 6 → ⊥) → ((row_at k r).kind ≡ 10 → ⊥) → (f r).a ≡ get_or (words_of (row_at k) c) r 0
  unfolding row_of row_with aOf
  a-is d e = ap (λ (v : Row). v.a) back ∙ if_eq-no _ _ d ∙ if_eq-no _ _ e

  b-is : (row_at k r).kind ≡ 3 → (f r).b ≡ lets_before (row_at k) r c
  unfolding row_of row_with bOf
  b-is e = ap (λ (v : Row). v.b) back ∙ if_eq-no _ _ (λ d. absurd (omega arith)) ∙ if_eq-yes _ _ e

  callee-is : (row_at k r).kind ≡ 3 → (f r).callee ≡ locals_at (row_at k) r
  unfolding row_of row_with callee_of
  callee-is e =
      ap (λ (v : Row). v.callee) back ∙ if_eq-yes _ _ e ∙ mod-eq_of_lt (locals-low (row_at k) c hc few r l₀)

  pub aimed-passes : aimed f c r ≡ true
  unfolding aimed
  aimed-passes =
      given-true (has_target (f r).kind) _ (λ e.
      let g : has_target (row_at k r).kind ≡ true = ap has_target (sym kind-is) ∙ e in
      let v : 14 ≤ (row_at k r).kind = target-high (row_at k r).kind g in
      eq-eqb (f r).a (target_of f c r)
      (a-is (λ d. absurd (omega (arith, v))) (λ d. absurd (omega (arith, v))) ∙ word-target (row_at k) c hc few r l₀ g v ∙ sym (target-same f (row_at k) al c r)))

  pub framed-passes : framed f c r ≡ true
  unfolding framed all
  framed-passes =
      both_true _ _
      (given_yes (f r).kind 5 _ (λ e.
      let g : (row_at k r).kind ≡ 5 = sym kind-is ∙ e in
      eq-eqb (f r).a (let_word f c r)
      (a-is (λ d. absurd (omega (arith, g))) (λ d. absurd (omega (arith, g))) ∙ word-let (row_at k) c hc few r l₀ g ∙ sym (let-same f (row_at k) al c r))))
      (both_true _ _
      (given_yes (f r).kind 3 _ (λ e.
      let g : (row_at k r).kind ≡ 3 = sym kind-is ∙ e in
      both_true _ _
      (eq-eqb (f r).a (block_word f c r)
      (a-is (λ d. absurd (omega (arith, g))) (λ d. absurd (omega (arith, g))) ∙ word-block (row_at k) c hc few r l₀ g ∙ sym (block_same f (row_at k) al c r)))
      (both_true _ _
      (eq-eqb (f r).b (lets_before f r c) (b-is g ∙ sym (lets-same f (row_at k) al r c)))
      (eq-eqb (f r).callee (locals_at f r) (callee-is g ∙ sym (locals_same f (row_at k) al r outside))))))
      (both_true _ _
      (given_yes (f r).kind 4 _ (λ e.
      let g : (row_at k r).kind ≡ 4 = sym kind-is ∙ e in
      eq-eqb (f r).a (block_word f c (f r).scope)
      (a-is (λ d. absurd (omega (arith, g))) (λ d. absurd (omega (arith, g))) ∙ word_end_lem (row_at k) c hc few r l₀ g
      ∙ ap (block_word (row_at k) c) (sym (al.scopes r)) ∙ sym (block_same f (row_at k) al c (f r).scope))))
      (both_true _ _
      (given_yes (f r).kind 1 _ (λ e.
      let g : (row_at k r).kind ≡ 1 = sym kind-is ∙ e in
      eq-eqb (f r).a (frame_size f c r)
      (a-is (λ d. absurd (omega (arith, g))) (λ d. absurd (omega (arith, g))) ∙ word-function (row_at k) c hc few r l₀ g
      ∙ sym (size_same f (row_at k) al c r (λ d. absurd (omega (arith, e)))))))
      refl)))
