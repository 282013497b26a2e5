-- Shifts for every count, at every width: the product modulo 2 ^ w, and the floor of the quotient.
-- Assumes nothing.
use Rattle.std.proofs.Common.{Err, Ok}
use Rattle.std.proofs.Common.{◌≡◌, ℕ, suc, ◌+◌, ◌-◌, ◌*◌, ◌/◌, ◌%◌, ◌^◌, ◌<◌, ◌≤◌, Bool, true, false, ltb, ℤ, pos, negsuc, ◌+ℤ◌, ◌*ℤ◌, neg_ℤ, sym, refl, ap, ◌∙◌, subst, lt_of_lt_of_le, lt_of_le_of_lt, mod-lt, mul_assoc, suc-mul, div-add-mod', sub-add_cancel, arith, pow_pos, pow_mono, pow-add, ltb-false, lt-ltb}
use native.Mathlib.Nat.{div-eq_of_lt, mul-mod_left, sub-zero}
use lib.Arith.{digits_div}
use lib.IntN.{pos-+ℤ-pos, pos-*ℤ-pos, negsuc-*ℤ-pos, neg_ℤ-+ℤ, -ℤ-+ℤ_cancel}
use lib.Signed.{mag, shr_z, mag_shr}
use Rattle.base_prelude.specs.Choice.{pick}
use Rattle.base_word.specs.declared.WordError.TheVariants.{Shift}
use Rattle.base_word.specs.Answers.{OfWord}
use Rattle.base_word.proofs.Answers.{choice}
use Rattle.base_word.specs.Values.{value, word_of}
use Rattle.base_word.specs.Shifts.{Floor}
use Rattle.base_word.proofs.Results.{value-word, value-small}
use Rattle.base_word.specs.Word.{negative, shift_answer, sign_fill, shl_by, bsr_by, asr_by, shl_of, bsr_of, asr_of}

-- `asr` rounds the signed value down
pub asr-is : (w a n : ℕ) → a < 2 ^ w → word_of w (shr_z (value w a) (2 ^ n)) ≡ asr_by w a n
asr-is w a n h = go (negative w a)
  where
    go : (s : Bool) → word_of w (shr_z (pick s (negsuc (2 ^ w - suc a)) (pos a)) (2 ^ n))
        ≡ pick s ((2 ^ w - 1) - ((2 ^ w - 1) - a) / 2 ^ n) (a / 2 ^ n)
    go true = let e : 2 ^ w - suc a ≡ 2 ^ w - 1 - a = omega arith in rw e (omega arith)
    go false = refl

-- a shift by w or more, for every count: no bit of the word is left
module _ (w a n : ℕ) (p : w ≤ n) where
  pub shl-far : shl_by w a n ≡ 0
  shl-far =
      ap (λ (k : ℕ). a * 2 ^ k % 2 ^ w) (sym (sub-add_cancel p))
      ∙ ap (λ (k : ℕ). a * k % 2 ^ w) (pow-add 2 (n - w) w)
      ∙ ap (λ (k : ℕ). k % 2 ^ w) (sym (mul_assoc a (2 ^ (n - w)) (2 ^ w)))
      ∙ mul-mod_left (a * 2 ^ (n - w)) (2 ^ w)

  pub bsr-far : a < 2 ^ w → bsr_by w a n ≡ 0
  bsr-far h = div-eq_of_lt (lt_of_lt_of_le h (pow_mono p))

module _ (w a n : ℕ) (p : w ≤ n) (h : a < 2 ^ w) where
  pub asr-far : asr_by w a n ≡ pick (negative w a) (2 ^ w - 1) 0
  asr-far = go (negative w a)
    where
      go : (s : Bool) → pick s ((2 ^ w - 1) - ((2 ^ w - 1) - a) / 2 ^ n) (a / 2 ^ n) ≡ pick s (2 ^ w - 1) 0
      go true = ap (λ (k : ℕ). 2 ^ w - 1 - k) (bsr-far w (2 ^ w - 1 - a) n p (let q : 0 < 2 ^ w = pow_pos w in omega arith)) ∙ sub-zero (2 ^ w - 1)
      go false = bsr-far w a n p h

-- ---- every count

-- where moving by w or more gives `far`, the shift is the move
shifted-is : (w n near far : ℕ) → (w ≤ n → near ≡ far) → pick (ltb n w) near far ≡ near
shifted-is w n near far f = go (ltb n w) refl
  where
    go : (t : Bool) → ltb n w ≡ t → pick t near far ≡ near
    go true e = refl
    go false e = sym (f (ltb-false n w e))

-- x * 2 ^ n modulo 2 ^ w
pub shl-every : (w a n : ℕ) → shl_of w a n ≡ shift_answer w n ((a * 2 ^ n) % 2 ^ w)
unfolding shl_of
shl-every w a n = ap (shift_answer w n) (shifted-is w n (shl_by w a n) 0 (shl-far w a n))

module _ (w a n : ℕ) (h : a < 2 ^ w) where
  -- x / 2 ^ n, rounded down
  pub bsr-every : bsr_of w a n ≡ shift_answer w n (a / 2 ^ n)
  unfolding bsr_of
  bsr-every = ap (shift_answer w n) (shifted-is w n (bsr_by w a n) 0 (λ p. bsr-far w a n p h))

  -- the signed value by 2 ^ n, rounded down
  pub asr-every : asr_of w a n ≡ shift_answer w n (word_of w (shr_z (value w a) (2 ^ n)))
  unfolding asr_of
  asr-every =
      ap (shift_answer w n)
      (shifted-is w n (asr_by w a n) (sign_fill w a) (λ p. asr-far w a n p h) ∙ sym (asr-is w a n h))

-- ---- the floor

-- a quotient rounded down is the floor
floor-is : (z : ℤ) (m : ℕ) → 0 < m → Floor z m (shr_z z m)
floor-is (pos a) m p =
    record { rest = a % m; rest_below = mod-lt a p; whole = ap (λ (x : ℤ). x +ℤ pos (a % m)) (pos-*ℤ-pos (a / m) m) ∙ pos-+ℤ-pos (a / m * m) (a % m) ∙ ap pos (div-add-mod' a m) }
floor-is (negsuc a) m p = record { rest = left; rest_below = omega arith; whole = total }
  where
    left : ℕ
    left = m - suc (a % m)

    parts : suc (a / m) * m ≡ suc a + left
    parts = let e : suc (a / m) * m ≡ a / m * m + m = suc-mul (a / m) m in omega (arith, mod-lt a p, div-add-mod' a m)

    total : negsuc (a / m) *ℤ pos m +ℤ pos left ≡ negsuc a
    total =
        ap (λ (x : ℤ). x +ℤ pos left) (negsuc-*ℤ-pos (a / m) m ∙ ap (λ (k : ℕ). neg_ℤ (pos k)) parts ∙ ap neg_ℤ (sym (pos-+ℤ-pos (suc a) left)) ∙ neg_ℤ-+ℤ (pos (suc a)) (pos left))
        ∙ -ℤ-+ℤ_cancel (neg_ℤ (pos (suc a))) (pos left)

floor-at : (m : ℕ) (q : ℤ) (r : ℕ) → r < m → shr_z (q *ℤ pos m +ℤ pos r) m ≡ q
floor-at m (pos c) r h = ap pos (digits_div c h)
floor-at m (negsuc c) r h =
    let e : suc c * m ≡ suc (c * m + (m - suc r) + r) = omega (arith, suc-mul c m)
    in let d : suc (c * m + (m - suc r) + r) - suc r ≡ c * m + (m - suc r) = omega arith
    in rw (e, lt-ltb r (suc (c * m + (m - suc r) + r)) (omega arith), d) (ap negsuc (digits_div c (omega arith)))

-- a number has one floor
pub floor-once : (x : ℤ) (m : ℕ) (p q : ℤ) → Floor x m p → Floor x m q → p ≡ q
floor-once x m p q f g = sym (rounded p f) ∙ rounded q g
  where
    rounded : (q : ℤ) → Floor x m q → shr_z x m ≡ q
    rounded q f = ap (λ (z : ℤ). shr_z z m) (sym f.whole) ∙ floor-at m q f.rest f.rest_below

-- -7 by 2: -4 with the rest 1
pub floor-good : Floor (negsuc 6) 2 (negsuc 3)
floor-good = record { rest = 1; rest_below = omega arith; whole = refl }

-- neither -3, which is nearer to 0, nor -5
pub floor-high : Floor (negsuc 6) 2 (negsuc 2) → ⊥
floor-high f = let e : ◌≡◌ {A = ℕ} 2 3 = ap mag (floor-once (negsuc 6) 2 (negsuc 2) (negsuc 3) f floor-good) in omega arith

pub floor-deep : Floor (negsuc 6) 2 (negsuc 4) → ⊥
floor-deep f = let e : ◌≡◌ {A = ℕ} 4 3 = ap mag (floor-once (negsuc 6) 2 (negsuc 4) (negsuc 3) f floor-good) in omega arith

module _ (w a n : ℕ) (h : a < 2 ^ w) where
  -- where `bsr` is not refused, it gives the floor of x / 2 ^ n
  pub bsr-floor : OfWord (λ (r : ℕ). Floor (pos a) (2 ^ n) (pos r)) (bsr_of w a n)
  bsr-floor =
      subst (OfWord (λ (r : ℕ). Floor (pos a) (2 ^ n) (pos r))) (sym (bsr-every w a n h))
      (choice (OfWord (λ (r : ℕ). Floor (pos a) (2 ^ n) (pos r))) (negative w n) (Err Shift) (Ok (a / 2 ^ n)) (λ e. tt) (λ e. floor-is (pos a) (2 ^ n) (pow_pos n)))

  -- where `asr` is not refused, its word's signed value is the floor of the signed value by 2 ^ n
  pub asr-floor : 0 < w → OfWord (λ (r : ℕ). Floor (value w a) (2 ^ n) (value w r)) (asr_of w a n)
  asr-floor pw =
      subst (OfWord (λ (r : ℕ). Floor (value w a) (2 ^ n) (value w r))) (sym (asr-every w a n h))
      (choice (OfWord (λ (r : ℕ). Floor (value w a) (2 ^ n) (value w r))) (negative w n) (Err Shift) (Ok (word_of w (shr_z (value w a) (2 ^ n)))) (λ e. tt) (λ e. reached))
    where
      small : mag (shr_z (value w a) (2 ^ n)) < 2 ^ (w - 1)
      small = lt_of_le_of_lt (mag_shr (value w a) (2 ^ n)) (value-small w a pw h)

      reached : Floor (value w a) (2 ^ n) (value w (word_of w (shr_z (value w a) (2 ^ n))))
      reached =
          subst (Floor (value w a) (2 ^ n)) (sym (value-word w (shr_z (value w a) (2 ^ n)) pw small))
          (floor-is (value w a) (2 ^ n) (pow_pos n))
