-- The ways through the functions on words and on the words of a row.
-- Assumes nothing.
use mathlib.Core.Path.{◌≡◌, refl, sym, ◌∙◌, ap}
use mathlib.Core.Bool.{Bool, true, false, not}
use mathlib.Core.List.{List}
use Prim.Native.Nat.{ℕ, suc, ◌+◌, ◌*◌, ◌<◌, ◌≤◌}
use native.Mathlib.Omega.{arith}
use lib.Dec.{eqb, ltb, leb}
use lib.ListN.{length, get_or, get_or-eq_default}
use borrow.Author.Tests.{eq-eqb, ne_eqb, lt-ltb, le-ltb, le-leb, lt-leb}
use Rattle.base_prelude.specs.Choice.{if_true, if_eq, if_lt}
use Rattle.prog_tables.specs.Tests.{both, one_of}
use Rattle.prog_tables.proofs.Each.{one-true, one-false}
use Rattle.prog_tables.specs.Statement.{has_expression, is_test, is_call_row, is_call, is_import, used_by}
use Rattle.prog_tables.specs.Nesting.{has_target}
use Rattle.prog_tables.specs.Faults.{has_word}
use Rattle.prog_tables.specs.WellFormed.{has_operands}
use Rattle.prog_tables.specs.Canonical.{uses_word}
use Rattle.file_codec.specs.Words.{word_in}
use Rattle.file_codec.specs.Rows.{uses}

pub byte_past : (b : List ℕ) (i : ℕ) → length b ≤ i → 0 ≡ get_or b i 0
byte_past b i h = sym (get_or-eq_default b 0 h)

pub word_made : (b : List ℕ) (at x y z w h : ℕ) → x ≡ get_or b at 0 → y ≡ get_or b (at + 1) 0 → z ≡ get_or b (at + 2) 0 → w ≡ get_or b (at + 3) 0
    → h ≡ z + 256 * w → x + 256 * (y + 256 * h) ≡ word_in b at
unfolding word_in
word_made b at x y z w h p q r s t = rw (t, p, q, r, s)

-- ---- what has operands

module _ (k : ℕ) (b : Bool) (d : b ≡ has_expression k) where
  pub operands-expression : b ≡ true → true ≡ has_operands k
  unfolding has_operands
  operands-expression h = rw (← d, h)

  module _ (h : b ≡ false) (v : Bool) (e : v ≡ is_test k) where
    pub operands-test : v ≡ true → true ≡ has_operands k
    unfolding has_operands
    operands-test p = rw (← d, h, ← e, p)

    module _ (p : v ≡ false) where
      pub operands-below : k < 8 → false ≡ has_operands k
      unfolding has_operands
      operands-below q = rw (← d, h, ← e, p, lt-leb _ _ q)

      pub operands-above : 12 < k → false ≡ has_operands k
      unfolding has_operands
      operands-above q = let r : 8 ≤ k = omega arith in rw (← d, h, ← e, p, le-leb _ _ r, lt-leb _ _ q)

      pub operands-within : 8 ≤ k → k ≤ 12 → not (eqb k 10) ≡ has_operands k
      unfolding has_operands
      operands-within q r = rw (← d, h, ← e, p, le-leb _ _ q, le-leb _ _ r)

pub ruleset operand-ways = (operands-expression, operands-test, operands-below, operands-above, operands-within)

-- ---- words of a row

module _ (k : ℕ) (b : Bool) (d : b ≡ has_target k) where
  pub a-target : b ≡ true → true ≡ uses k 0 0 4
  unfolding uses uses_word if_lt if_eq
  a-target h = rw (← d, h, one-true (has_word k), one-true (eqb k 1))

  pub a-goto : b ≡ false → k ≡ 10 → true ≡ uses k 0 0 4
  unfolding uses uses_word if_lt if_eq
  a-goto h p = rw (← d, h, eq-eqb _ _ p, one-true (has_word k), one-true (eqb k 1))

  module _ (h : b ≡ false) (p : k ≡ 10 → ⊥) where
    pub a-function : k ≡ 1 → true ≡ uses k 0 0 4
    unfolding uses uses_word if_lt if_eq
    a-function q = rw (eq-eqb _ _ q)

    pub a-below : (k ≡ 1 → ⊥) → k < 3 → false ≡ uses k 0 0 4
    unfolding uses uses_word if_lt if_eq has_word
    a-below q r = rw (← d, h, ne_eqb _ _ q, ne_eqb _ _ p, lt-ltb _ _ r)

    pub a_word : (k ≡ 1 → ⊥) → 3 ≤ k → ltb k 7 ≡ uses k 0 0 4
    unfolding uses uses_word if_lt if_eq has_word
    a_word q r = rw (← d, h, ne_eqb _ _ q, ne_eqb _ _ p, le-ltb _ _ r) (sym (one-false (ltb k 7)))

pub ruleset a-ways = (a-target, a-goto, a-function, a-below, a_word)

module _ (k : ℕ) where
  pub b-function : k ≡ 1 → true ≡ uses k 0 0 5
  unfolding uses uses_word if_lt if_eq
  b-function p = rw (eq-eqb _ _ p)

  pub b-block : (k ≡ 1 → ⊥) → eqb k 3 ≡ uses k 0 0 5
  unfolding uses uses_word if_lt if_eq
  b-block p = rw (ne_eqb _ _ p)

  pub expr-has : (b : Bool) → b ≡ has_expression k → b ≡ true → true ≡ uses k 0 0 6
  unfolding uses uses_word if_lt if_eq
  expr-has b d h = rw (← d, h)

  pub expr-call : (b v : Bool) → b ≡ has_expression k → b ≡ false → v ≡ is_call_row k → v ≡ uses k 0 0 6
  unfolding uses uses_word if_lt if_eq
  expr-call b v d h e = rw (← d, h) e

  pub callee-block : (e : ℕ) → k ≡ 3 → true ≡ uses k e 0 7
  unfolding uses uses_word if_lt if_eq
  callee-block e p = rw (eq-eqb _ _ p)

  pub callee-call : (e : ℕ) (b : Bool) → (k ≡ 3 → ⊥) → b ≡ is_call k e → b ≡ true → true ≡ uses k e 0 7
  unfolding uses uses_word if_lt if_eq
  callee-call e b p d h = rw (ne_eqb _ _ p, ← d, h)

  pub callee-import : (e : ℕ) (b v : Bool) → (k ≡ 3 → ⊥) → b ≡ is_call k e → b ≡ false → v ≡ is_import k e → v ≡ uses k e 0 7
  unfolding uses uses_word if_lt if_eq
  callee-import e b v p d h q = rw (ne_eqb _ _ p, ← d, h) q

pub ruleset part-ways = (b-function, b-block, expr-has, expr-call, callee-block, callee-call, callee-import)

module _ (k e n j : ℕ) where
  pub slot-used : (u : ℕ) → u ≡ used_by k e n → 11 ≤ j → ltb j (11 + 2 * u) ≡ uses k e n j
  unfolding uses uses_word if_lt if_eq
  slot-used u d h =
      let h4 : 4 ≤ j = omega arith in
      rw (le-ltb _ _ h4, ne_eqb j 4 (λ q. omega arith), ne_eqb j 5 (λ q. omega arith), ne_eqb j 6 (λ q. omega arith), ne_eqb j 7 (λ q. omega arith), ne_eqb j 8 (λ q. omega arith), le-ltb _ _ h, ← d)

  pub use-head : j < 4 → true ≡ uses k e n j
  unfolding uses uses_word if_lt
  use-head h = rw (lt-ltb _ _ h)

  pub use-a : (b : Bool) → j ≡ 4 → b ≡ uses k 0 0 4 → b ≡ uses k e n j
  unfolding uses uses_word if_lt if_eq
  use-a b p d = rw p d

  pub use-b : (b : Bool) → j ≡ 5 → b ≡ uses k 0 0 5 → b ≡ uses k e n j
  unfolding uses uses_word if_lt if_eq
  use-b b p d = rw p d

  pub use-expr : (b : Bool) → j ≡ 6 → b ≡ uses k 0 0 6 → b ≡ uses k e n j
  unfolding uses uses_word if_lt if_eq
  use-expr b p d = rw p d

  pub use-callee : (b : Bool) → j ≡ 7 → b ≡ uses k e 0 7 → b ≡ uses k e n j
  unfolding uses uses_word if_lt if_eq
  use-callee b p d = rw p d

  pub use-count : (b : Bool) → j ≡ 8 → b ≡ has_operands k → b ≡ uses k e n j
  unfolding uses uses_word if_lt if_eq
  use-count b p d = rw p d

  pub use-address : 4 ≤ j → (j ≡ 4 → ⊥) → (j ≡ 5 → ⊥) → (j ≡ 6 → ⊥) → (j ≡ 7 → ⊥) → (j ≡ 8 → ⊥) → j < 11 → eqb k 7 ≡ uses k e n j
  unfolding uses uses_word if_lt if_eq
  use-address h p4 p5 p6 p7 p8 q =
      rw (le-ltb _ _ h, ne_eqb _ _ p4, ne_eqb _ _ p5, ne_eqb _ _ p6, ne_eqb _ _ p7, ne_eqb _ _ p8, lt-ltb _ _ q)

pub ruleset use-ways = (use-head, use-a, use-b, use-expr, use-callee, use-count, use-address)
