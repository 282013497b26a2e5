-- How many words a row uses.
-- Assumes nothing.
use mathlib.Core.Path.{◌≡◌, refl, sym, ◌∙◌, ap}
use mathlib.Core.Bool.{Bool, true, false}
use mathlib.Core.List.{List}
use Prim.Native.Nat.{ℕ, zero, suc, ◌+◌, ◌*◌, ◌<◌, ◌≤◌, min}
use native.Mathlib.Nat.{add-suc, add-zero}
use native.Mathlib.Decide.{dec_lt}
use native.Mathlib.Omega.{arith}
use lib.Dec.{eqb, ltb, leb}
use lib.ListN.{length}
use borrow.Author.Tests.{eq-eqb, ne_eqb, lt-ltb, le-ltb, le-leb, lt-leb}
use Rattle.base_prelude.specs.Choice.{pick, if_true, if_eq, if_lt}
use Rattle.prog_tables.specs.Tests.{count_below}
use Rattle.prog_tables.specs.Statement.{used_by}
use Rattle.prog_tables.specs.WellFormed.{has_operands}
use Rattle.prog_tables.specs.Canonical.{uses_word}
use Rattle.file_codec.specs.Words.{word_in}
use Rattle.file_codec.specs.Rows.{uses, unpacked_at, kind_in, expr_in, count_in, uses_in, row_fits}
use Rattle.file_codec.specs.Labels.{label_head, label_kind_in, label_fits}
use Rattle.file_codec.proofs.Cases.{slot-used}

pub one_more_lem : (x : Bool) (c : ℕ) → pick x (suc c) c ≡ c + pick x 1 0
one_more_lem true c = omega arith
one_more_lem false c = omega arith

pub count-more : (p : ℕ → Bool) (n : ℕ) → count_below p (suc n) ≡ count_below p n + pick (p n) 1 0
unfolding count_below
count-more p n = one_more_lem (p n) (count_below p n)

module _ (k : ℕ) where
  pub count-four : (e n : ℕ) → count_below (uses k e n) 4 ≡ 4
  unfolding count_below uses uses_word if_lt
  count-four e n = refl

  pub count-six : (e n : ℕ) → count_below (uses k e n) 6 ≡ 4 + pick (uses k 0 0 4) 1 0 + pick (uses k 0 0 5) 1 0
  unfolding uses uses_word if_lt if_eq
  count-six e n =
      count-more (uses k e n) 5 ∙ ap (λ (c : ℕ). c + pick (uses k e n 5) 1 0) (count-more (uses k e n) 4 ∙ ap (λ (c : ℕ). c + pick (uses k e n 4) 1 0) (count-four e n))

  pub count-eight : (e n : ℕ) → count_below (uses k e n) 8 ≡ count_below (uses k 0 0) 6 + pick (uses k 0 0 6) 1 0 + pick (uses k e 0 7) 1 0
  unfolding uses uses_word if_lt if_eq
  count-eight e n =
      count-more (uses k e n) 7 ∙ ap (λ (c : ℕ). c + pick (uses k e n 7) 1 0) (count-more (uses k e n) 6 ∙ ap (λ (c : ℕ). c + pick (uses k e n 6) 1 0) (count-six e n ∙ sym (count-six 0 0)))

  pub count-eleven : (e n : ℕ) → count_below (uses k e n) 11 ≡ count_below (uses k e 0) 8 + pick (has_operands k) 1 0 + 2 * pick (eqb k 7) 1 0
  unfolding uses uses_word if_lt if_eq
  count-eleven e n =
      let h8 = count-more (uses k e n) 8 in
      let h9 = count-more (uses k e n) 9 in
      let h10 = count-more (uses k e n) 10 in
      omega (arith, h8, h9, h10, count-eight e n, count-eight e 0)

  -- of m words of slots
  pub count-slots : (e n m : ℕ) → count_below (uses k e n) (11 + m) ≡ count_below (uses k e n) 11 + min m (2 * used_by k e n)
  count-slots e n zero = omega arith
  count-slots e n (suc m) =
      let u : ltb (11 + m) (11 + 2 * used_by k e n) ≡ uses k e n (11 + m) = slot-used k e n (11 + m) (used_by k e n) refl (omega arith) in
      let h : count_below (uses k e n) (suc (11 + m)) ≡ count_below (uses k e n) (11 + m) + pick (ltb (11 + m) (11 + 2 * used_by k e n)) 1 0 = count-more (uses k e n) (11 + m) ∙ ap (λ (b : Bool). count_below (uses k e n) (11 + m) + pick b 1 0) (sym u) in
      let last : count_below (uses k e n) 11 + min m (2 * used_by k e n) + pick (ltb (11 + m) (11 + 2 * used_by k e n)) 1 0 ≡ count_below (uses k e n) 11 + min (suc m) (2 * used_by k e n) =
      elim (dec_lt m (2 * used_by k e n)) [
        | yes p ↦ rw (lt-ltb (11 + m) (11 + 2 * used_by k e n) (omega arith)) (omega arith)
        | no q ↦ rw (le-ltb (11 + m) (11 + 2 * used_by k e n) (omega arith)) (omega arith)
      ]
      in
      rw (add-suc 11 m) (h ∙ ap (λ (c : ℕ). c + pick (ltb (11 + m) (11 + 2 * used_by k e n)) 1 0) (count-slots e n m) ∙ last)

  pub count-all : (e n h u : ℕ) → u ≡ used_by k e n → h ≡ count_below (uses k e 0) 8 + pick (has_operands k) 1 0 + 2 * pick (eqb k 7) 1 0 → h + 2 * min u 8 ≡ count_below (uses k e n) 27
  count-all e n h u d q =
      let z : count_below (uses k e n) 27 ≡ count_below (uses k e n) 11 + min 16 (2 * used_by k e n) = count-slots e n 16 in
      rw d (omega (arith, z, count-eleven e n))

pub before-expr : (k x y : ℕ) (a b : Bool) → a ≡ uses k 0 0 4 → b ≡ uses k 0 0 5 → x ≡ pick a 1 0 → y ≡ pick b 1 0 → 4 + x + y ≡ count_below (uses k 0 0) 6
before-expr k x y a b p q r s = rw (r, s, p, q) (sym (count-six k 0 0))

pub before-count : (k e h x y : ℕ) (a b : Bool) → h ≡ count_below (uses k 0 0) 6 → a ≡ uses k 0 0 6 → b ≡ uses k e 0 7 → x ≡ pick a 1 0 → y ≡ pick b 1 0
    → h + x + y ≡ count_below (uses k e 0) 8
before-count k e h x y a b d p q r s = rw (r, s, p, q, d) (sym (count-eight k e 0))

pub all_words : (k e n h x y u v : ℕ) (a : Bool) → h ≡ count_below (uses k e 0) 8 → a ≡ has_operands k → x ≡ pick a 1 0 → y ≡ 2 * pick (eqb k 7) 1 0 → u ≡ used_by k e n
    → v ≡ 2 * min u 8 → h + x + y + v ≡ count_below (uses k e n) 27
all_words k e n h x y u v a d p r s q w = rw w (count-all k e n (h + x + y) u q (rw (r, s, p, d)))

pub address-two : (k : ℕ) → k ≡ 7 → 2 ≡ 2 * pick (eqb k 7) 1 0
address-two k p = rw (eq-eqb _ _ p)

pub address-none : (k : ℕ) → (k ≡ 7 → ⊥) → 0 ≡ 2 * pick (eqb k 7) 1 0
address-none k p = rw (ne_eqb _ _ p)

-- ---- words of a row in the bytes of its field

module _ (x : List ℕ) (k : ℕ) where
  pub expr-there : (b : Bool) (p v : ℕ) → b ≡ uses k 0 0 6 → b ≡ true → p ≡ count_below (uses k 0 0) 6 → v ≡ word_in x (p * 4) → v ≡ unpacked_at (uses k 0 0) x 6
  unfolding unpacked_at if_true
  expr-there b p v d h q r = let z : p * 4 ≡ 4 * p = omega arith in rw (← d, h, ← q, ← z) r

  pub expr-none : (b : Bool) → b ≡ uses k 0 0 6 → b ≡ false → 0 ≡ unpacked_at (uses k 0 0) x 6
  unfolding unpacked_at if_true
  expr-none b d h = rw (← d, h)

  pub count-there : (e : ℕ) (b : Bool) (p v : ℕ) → b ≡ has_operands k → b ≡ true → p ≡ count_below (uses k e 0) 8 → v ≡ word_in x (p * 4) → v ≡ unpacked_at (uses k e 0) x 8
  unfolding unpacked_at if_true uses uses_word if_lt if_eq
  count-there e b p v d h q r = let z : p * 4 ≡ 4 * p = omega arith in rw (← d, h, ← q, ← z) r

  pub count_none : (e : ℕ) (b : Bool) → b ≡ has_operands k → b ≡ false → 0 ≡ unpacked_at (uses k e 0) x 8
  unfolding unpacked_at if_true uses uses_word if_lt if_eq
  count_none e b d h = rw (← d, h)

pub ruleset head-ways = (expr-there, expr-none, count-there, count_none)

pub row_fits_lem : (x : List ℕ) (k e n v : ℕ) → k ≡ word_in x 0 → e ≡ unpacked_at (uses k 0 0) x 6 → n ≡ unpacked_at (uses k e 0) x 8 → v ≡ count_below (uses k e n) 27
    → eqb (length x) (v * 4) ≡ row_fits x
unfolding row_fits uses_in count_in expr_in kind_in
row_fits_lem x k e n v d p q r = let z : v * 4 ≡ 4 * v = omega arith in rw (z, r, q, p, d)

pub label-fits : (x : List ℕ) (k h : ℕ) → k ≡ word_in x 0 → h ≡ label_head k → leb h (length x) ≡ label_fits x
unfolding label_fits label_kind_in
label-fits x k h d p = rw (p, d)
