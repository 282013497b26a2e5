-- The signed values of quotient and remainder, at every width: the result has a word, and its signed value is the
-- integers' result.
-- Assumes nothing.
use Rattle.std.proofs.Common.{Err, Ok}
use Rattle.std.proofs.Common.{◌≡◌, ℕ, zero, suc, ◌+◌, ◌-◌, ◌/◌, ◌^◌, ◌<◌, ◌≤◌, Bool, true, false, eqb, ℤ, pos, negsuc, neg_ℤ, sym, refl, ap, ◌∙◌, zero-le, le_trans, lt_of_lt_of_le, le_of_suc-le-suc, lt_of_le_of_lt, div-le_self, div-one, arith, pow_pos, eq-eqb, ne_eqb, le-leb, leb-false, leb-true}
use native.Mathlib.Nat.{mod-one, mod_self, div-lt_self, sub-zero, le-suc}
use borrow.Author.Tests.{lt-leb}
use lib.Arith.{lt_of_le-ne}
use lib.Signed.{mag, quot_z, rem_z, mag_rem}
use Rattle.base_prelude.proofs.Choice.{true-false}
use Rattle.base_prelude.specs.Choice.{pick}
use Rattle.base_word.specs.declared.WordError.TheVariants.{Division}
use Rattle.base_word.specs.Answers.{OfWord}
use Rattle.base_word.proofs.Answers.{choice}
use Rattle.base_word.specs.Values.{value, word_of}
use Rattle.base_word.proofs.Values.{word_value, quotient_is, remainder_is, halves}
use Rattle.base_word.specs.Word.{negative, quotient, remainder, no_word, div_of, mod_of}

-- ---- integers that have a word

-- an integer between -2 ^ (w - 1) and 2 ^ (w - 1) - 1 is the signed value of its word
pub value-word : (w : ℕ) (z : ℤ) → 0 < w → mag z < 2 ^ (w - 1) → value w (word_of w z) ≡ z
value-word w (pos n) p h = rw (lt-leb (2 ^ (w - 1)) n h)
value-word w (negsuc n) p h =
    let e : 2 ^ w ≡ 2 ^ (w - 1) + 2 ^ (w - 1) = halves w p
    in let d : 2 ^ w - suc (2 ^ w - suc n) ≡ n = omega arith
    in rw (le-leb (2 ^ (w - 1)) (2 ^ w - suc n) (omega arith), d)

-- a word's signed value is such an integer
pub value-small : (w a : ℕ) → 0 < w → a < 2 ^ w → mag (value w a) < 2 ^ (w - 1)
value-small w a p h = go (negative w a) refl
  where
    go : (s : Bool) → negative w a ≡ s → mag (pick s (negsuc (2 ^ w - suc a)) (pos a)) < 2 ^ (w - 1)
    go true e = omega (arith, halves w p, leb-true (2 ^ (w - 1)) a e)
    go false e = leb-false (2 ^ (w - 1)) a e

-- ---- quotient and remainder

mag-minus : (r a : ℕ) → r ≤ suc a → mag (neg_ℤ (pos r)) ≤ a
mag-minus zero a h = zero-le
mag-minus (suc r) a h = le_of_suc-le-suc h

-- the quotient stays in a range of h on both sides, but for the least number by -1
quot-small : (h : ℕ) (x y : ℤ) → mag x < h → (x ≡ negsuc (h - 1) → y ≡ negsuc 0 → ⊥) → mag (quot_z x y) < h
quot-small h (pos a) (pos b) p n = lt_of_le_of_lt (div-le_self a b) p
quot-small h (pos a) (negsuc b) p n = lt_of_le_of_lt (mag-minus (a / suc b) a (le_trans (div-le_self a (suc b)) (le-suc a))) p
quot-small h (negsuc a) (pos b) p n = lt_of_le_of_lt (mag-minus (suc a / b) a (div-le_self (suc a) b)) p
quot-small h (negsuc a) (negsuc zero) p n =
    rw (div-one (suc a)) (lt_of_le-ne p (λ e. n (ap negsuc (let d : a ≡ h - 1 = omega arith in d)) refl))
quot-small h (negsuc a) (negsuc (suc b)) p n = lt_of_lt_of_le (div-lt_self (omega arith) (omega arith)) p

module _ (w a b : ℕ) (pw : 0 < w) (ha : a < 2 ^ w) (hb : b < 2 ^ w) where
  not_least : no_word w a b ≡ false → value w a ≡ negsuc (2 ^ (w - 1) - 1) → value w b ≡ negsuc 0 → ⊥
  not_least n e e' = true-false (sym t ∙ n)
    where
      least : a ≡ 2 ^ (w - 1)
      least =
          let d : 2 ^ w - suc (2 ^ (w - 1) - 1) ≡ 2 ^ (w - 1) = omega (arith, halves w pw, pow_pos (w - 1))
          in sym (word_value w a ha) ∙ ap (word_of w) e ∙ d

      last : b ≡ 2 ^ w - 1
      last = sym (word_value w b hb) ∙ ap (word_of w) e'

      t : no_word w a b ≡ true
      t = rw (eq-eqb a (2 ^ (w - 1)) least) (eq-eqb b (2 ^ w - 1) last)

  pub quotient-value : no_word w a b ≡ false → value w (quotient w a b) ≡ quot_z (value w a) (value w b)
  quotient-value n =
      ap (value w) (sym (quotient_is w a b ha hb))
      ∙ value-word w (quot_z (value w a) (value w b)) pw
      (quot-small (2 ^ (w - 1)) (value w a) (value w b) (value-small w a pw ha) (not_least n))

  pub remainder-value : value w (remainder w a b) ≡ rem_z (value w a) (value w b)
  remainder-value =
      ap (value w) (sym (remainder_is w a b ha hb))
      ∙ value-word w (rem_z (value w a) (value w b)) pw
      (lt_of_le_of_lt (mag_rem (value w a) (value w b)) (value-small w a pw ha))

  -- where `div` is not refused, its word's signed value is the quotient rounded toward zero
  pub div_value : OfWord (λ (r : ℕ). value w r ≡ quot_z (value w a) (value w b)) (div_of w a b)
  unfolding div_of
  div_value =
      choice (OfWord (λ (r : ℕ). value w r ≡ quot_z (value w a) (value w b))) (eqb b 0) (Err Division)
      (pick (no_word w a b) (Err Division) (Ok (quotient w a b))) (λ e. tt)
      (λ e. choice (OfWord (λ (r : ℕ). value w r ≡ quot_z (value w a) (value w b))) (no_word w a b) (Err Division) (Ok (quotient w a b)) (λ e'. tt) quotient-value)

  -- where `mod` is not refused, its word's signed value is the remainder with the sign of the first
  pub mod-value : OfWord (λ (r : ℕ). value w r ≡ rem_z (value w a) (value w b)) (mod_of w a b)
  unfolding mod_of
  mod-value =
      choice (OfWord (λ (r : ℕ). value w r ≡ rem_z (value w a) (value w b))) (eqb b 0) (Err Division) (Ok (remainder w a b))
      (λ e. tt) (λ e. remainder-value)

-- the word of -1 is not 0
least-divisor : (w : ℕ) → 0 < w → 2 ^ w - 1 ≡ 0 → ⊥
least-divisor w p z = omega (arith, halves w p, pow_pos (w - 1))

-- the refused quotient is 2 ^ (w - 1), which is no word's signed value
pub least-quotient : (w : ℕ) → 0 < w → quot_z (value w (2 ^ (w - 1))) (value w (2 ^ w - 1)) ≡ pos (2 ^ (w - 1))
least-quotient w p =
    let e : 2 ^ w ≡ 2 ^ (w - 1) + 2 ^ (w - 1) = halves w p
    in let q : 0 < 2 ^ (w - 1) = pow_pos (w - 1)
    in let d : suc (2 ^ w - suc (2 ^ (w - 1))) ≡ 2 ^ (w - 1) = omega arith
    in let z : 2 ^ w - suc (2 ^ w - 1) ≡ 0 = omega arith
    in rw (le-leb (2 ^ (w - 1)) (2 ^ (w - 1)) (omega arith), le-leb (2 ^ (w - 1)) (2 ^ w - 1) (omega arith), d, z) (ap pos (div-one (2 ^ (w - 1))))

-- "`div` of -2147483648 by -1: stop 30"
pub div-least : (w : ℕ) → 0 < w → div_of w (2 ^ (w - 1)) (2 ^ w - 1) ≡ Err Division
unfolding div_of
div-least w p =
    rw (ne_eqb (2 ^ w - 1) 0 (least-divisor w p), eq-eqb (2 ^ (w - 1)) (2 ^ (w - 1)) refl, eq-eqb (2 ^ w - 1) (2 ^ w - 1) refl)

-- "`mod` there is 0"
pub mod-least : (w : ℕ) → 0 < w → mod_of w (2 ^ (w - 1)) (2 ^ w - 1) ≡ Ok 0
unfolding mod_of
mod-least w p =
    let e : 2 ^ w ≡ 2 ^ (w - 1) + 2 ^ (w - 1) = halves w p
    in let q : 0 < 2 ^ (w - 1) = pow_pos (w - 1)
    in let d : 2 ^ w - (2 ^ w - 1) ≡ 1 = omega arith
    in rw (ne_eqb (2 ^ w - 1) 0 (least-divisor w p), le-leb (2 ^ (w - 1)) (2 ^ (w - 1)) (omega arith), le-leb (2 ^ (w - 1)) (2 ^ w - 1) (omega arith), d, mod-one (2 ^ w - 2 ^ (w - 1)), sub-zero (2 ^ w), mod_self (2 ^ w))
