-- The definitions that have tests, one law for each way through the code.
-- Assumes nothing.
use Rattle.std.proofs.Common.{Err, Ok}
use Rattle.std.proofs.Common.{◌≡◌, ℕ, zero, suc, ◌-◌, ◌%◌, ◌^◌, ◌<◌, ◌≤◌, Bool, true, false, ltb, refl, ap, ◌∙◌, lt_of_le_of_lt, mod-eq_of_lt, pow-suc, arith, pow_pos, ltb-true, le-ltb, lt-ltb, eq-eqb, ne_eqb, le-leb}
use borrow.Author.Tests.{lt-leb}
use Rattle.base_prelude.specs.Choice.{pick}
use Rattle.base_word.specs.Word.{Answer}
use Rattle.base_word.specs.declared.WordError.TheVariants.{Division}
use Rattle.base_word.specs.Word.{quotient, remainder, no_word, div_of, mod_of, shift_answer, shifted, sign_fill, bsr_by, asr_by}

module _ (w a b : ℕ) where
  pub div-zero : b ≡ 0 → Err Division ≡ div_of w a b
  unfolding div_of
  div-zero p = rw (eq-eqb b 0 p)

  pub div-lacks : (t : Bool) → (b ≡ 0 → ⊥) → t ≡ no_word w a b → t ≡ true → Err Division ≡ div_of w a b
  unfolding div_of
  div-lacks t p e q = rw (ne_eqb b 0 p, ← e, q)

  pub div_word : (t : Bool) (r : ℕ) → (b ≡ 0 → ⊥) → t ≡ no_word w a b → t ≡ false → r ≡ quotient w a b → Ok r ≡ div_of w a b
  unfolding div_of
  div_word t r p e q e' = rw (ne_eqb b 0 p, ← e, q, e')

  pub mod-zero : b ≡ 0 → Err Division ≡ mod_of w a b
  unfolding mod_of
  mod-zero p = rw (eq-eqb b 0 p)

  pub mod-word : (r : ℕ) → (b ≡ 0 → ⊥) → r ≡ remainder w a b → Ok r ≡ mod_of w a b
  unfolding mod_of
  mod-word r p e = rw (ne_eqb b 0 p, e)

module _ (w a n : ℕ) where
  pub asr-plus : (r : ℕ) → a < 2 ^ (w - 1) → r ≡ bsr_by w a n → r ≡ asr_by w a n
  asr-plus r p e = rw (lt-leb (2 ^ (w - 1)) a p) e

  pub asr-minus : (m : ℕ) → 2 ^ (w - 1) ≤ a → m ≡ bsr_by w ((2 ^ w - 1) - a) n → (2 ^ w - 1) - m ≡ asr_by w a n
  asr-minus m p e = rw (le-leb (2 ^ (w - 1)) a p, e)

  pub fill-plus : a < 2 ^ (w - 1) → 0 ≡ sign_fill w a
  fill-plus p = rw (lt-leb (2 ^ (w - 1)) a p)

  pub fill-minus : 2 ^ (w - 1) ≤ a → 2 ^ w - 1 ≡ sign_fill w a
  fill-minus p = rw (le-leb (2 ^ (w - 1)) a p)

below_power : (k : ℕ) → k < 2 ^ k
below_power zero = pow_pos 0
below_power (suc k) = omega (arith, below_power k, pow-suc 2 k)

-- a count below the width is not negative
pub short-count : (w n : ℕ) → n < w → n < 2 ^ (w - 1)
short-count w n p = lt_of_le_of_lt (omega arith) (below_power (w - 1))

module _ (w n : ℕ) where
  pub shifted-near : (near far : ℕ) → n < w → Ok near ≡ shifted w n near far
  shifted-near near far p = rw (lt-leb (2 ^ (w - 1)) n (short-count w n p), lt-ltb n w p)

  pub shifted-far : (x : Answer) (near far : ℕ) → w ≤ n → x ≡ shift_answer w n far → x ≡ shifted w n near far
  shifted-far x near far p e = rw (le-ltb n w p) e

  -- a count below the width is itself modulo the width
  pub shifted-modulo : (f : ℕ → ℕ) (x : Answer) (k near far s : ℕ) → k ≡ n % w → near ≡ f k → far ≡ s → x ≡ shifted w n near far
      → x ≡ shifted w n (f n) s
  shifted-modulo f x k near far s u v e d = d ∙ ap (shift_answer w n) (go (ltb n w) refl)
    where
      go : (t : Bool) → ltb n w ≡ t → pick t near far ≡ pick t (f n) s
      go true q = v ∙ ap f (u ∙ mod-eq_of_lt (ltb-true n w q))
      go false q = e
