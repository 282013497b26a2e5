-- Every operation gives a word of w bits for words of w bits.
-- Assumes nothing.
use Rattle.std.proofs.Common.{Err, Ok}
use Rattle.std.proofs.Common.{ℕ, ◌+◌, ◌-◌, ◌*◌, ◌/◌, ◌%◌, ◌^◌, ◌<◌, ◌≤◌, Bool, eqb, ltb, subst, lt_of_lt_of_le, lt_of_le_of_lt, le_of_lt, mod-lt, add_comm, div-le_self, sub-le, arith, pow_pos, pow_mono, shl_lt, shr_lt, leb-true}
use native.Mathlib.Nat.{mod-le}
use lib.Pow.{shr_le, ones_lt, ones_sub-lt}
use lib.Bits.{and_le_l, or_lt, xor_lt}
use Rattle.base_prelude.specs.Choice.{pick}
use Rattle.base_word.specs.declared.WordError.TheVariants.{Division, Shift}
use Rattle.base_word.specs.Answers.{WordBelow}
use Rattle.base_word.proofs.Answers.{choice}
use Rattle.base_word.specs.Word.{add_of, sub_of, mul_of, negative, magnitude, negated, signed_word, differ, quotient, remainder, no_word, div_of, mod_of, shift_answer, shifted, sign_fill, rotate_count, shl_by, bsr_by, asr_by, rol_by, ror_by, shl_of, bsr_of, shr_of, asr_of, rol_of, ror_of, and_of, or_of, xor_of, not_of}

module _ (w a b : ℕ) where
  pub add-below : add_of w a b < 2 ^ w
  unfolding add_of
  add-below = mod-lt (a + b) (pow_pos w)

  pub sub-below : sub_of w a b < 2 ^ w
  unfolding sub_of
  sub-below = mod-lt (a + (2 ^ w - b)) (pow_pos w)

  pub mul-below : mul_of w a b < 2 ^ w
  unfolding mul_of
  mul-below = mod-lt (a * b) (pow_pos w)

  pub not-below : not_of w a < 2 ^ w
  unfolding not_of
  not-below = ones_sub-lt w a

  pub signed_below : (s : Bool) (n : ℕ) → n < 2 ^ w → signed_word w s n < 2 ^ w
  signed_below s n p = choice (λ (x : ℕ). x < 2 ^ w) s (negated w n) n (λ e. mod-lt (2 ^ w - n) (pow_pos w)) (λ e. p)

module _ (w a b : ℕ) (ha : a < 2 ^ w) where
  pub magnitude-below : magnitude w a < 2 ^ w
  magnitude-below =
      choice (λ (x : ℕ). x < 2 ^ w) (negative w a) (2 ^ w - a) a
      (λ e. omega (arith, leb-true (2 ^ (w - 1)) a e, pow_pos (w - 1))) (λ e. ha)

  pub quotient-below : quotient w a b < 2 ^ w
  quotient-below =
      signed_below w a b (differ (negative w a) (negative w b)) (magnitude w a / magnitude w b)
      (lt_of_le_of_lt (div-le_self (magnitude w a) (magnitude w b)) magnitude-below)

  pub remainder-below : remainder w a b < 2 ^ w
  remainder-below =
      signed_below w a b (negative w a) (magnitude w a % magnitude w b)
      (lt_of_le_of_lt (mod-le (magnitude w a) (magnitude w b)) magnitude-below)

  pub div_below : WordBelow w (div_of w a b)
  unfolding div_of
  div_below =
      choice (WordBelow w) (eqb b 0) (Err Division) (pick (no_word w a b) (Err Division) (Ok (quotient w a b))) (λ e. tt)
      (λ e. choice (WordBelow w) (no_word w a b) (Err Division) (Ok (quotient w a b)) (λ e'. tt) (λ e'. quotient-below))

  pub mod_below : WordBelow w (mod_of w a b)
  unfolding mod_of
  mod_below = choice (WordBelow w) (eqb b 0) (Err Division) (Ok (remainder w a b)) (λ e. tt) (λ e. remainder-below)

  pub and_below : and_of w a b < 2 ^ w
  unfolding and_of
  and_below = lt_of_le_of_lt (and_le_l a b) ha

  pub or-below : b < 2 ^ w → or_of w a b < 2 ^ w
  unfolding or_of
  or-below hb = or_lt w a b ha hb

  pub xor_below : b < 2 ^ w → xor_of w a b < 2 ^ w
  unfolding xor_of
  xor_below hb = xor_lt w a b ha hb

module _ (w a n : ℕ) where
  answer-below : (r : ℕ) → r < 2 ^ w → WordBelow w (shift_answer w n r)
  answer-below r p = choice (WordBelow w) (negative w n) (Err Shift) (Ok r) (λ e. tt) (λ e. p)

  shifted-below : (near far : ℕ) → near < 2 ^ w → far < 2 ^ w → WordBelow w (shifted w n near far)
  shifted-below near far p q = answer-below (pick (ltb n w) near far) (choice (λ (x : ℕ). x < 2 ^ w) (ltb n w) near far (λ e. p) (λ e. q))

  fill-below : sign_fill w a < 2 ^ w
  fill-below = choice (λ (x : ℕ). x < 2 ^ w) (negative w a) (2 ^ w - 1) 0 (λ e. ones_lt w) (λ e. pow_pos w)

  pub shl_below : WordBelow w (shl_of w a n)
  unfolding shl_of
  shl_below = shifted-below (shl_by w a n) 0 (mod-lt (a * 2 ^ n) (pow_pos w)) (pow_pos w)

module _ (w a n : ℕ) (ha : a < 2 ^ w) where
  pub bsr-by-below : bsr_by w a n < 2 ^ w
  bsr-by-below = lt_of_le_of_lt (shr_le a n) ha

  pub asr-by-below : asr_by w a n < 2 ^ w
  asr-by-below =
      choice (λ (x : ℕ). x < 2 ^ w) (negative w a) ((2 ^ w - 1) - ((2 ^ w - 1) - a) / 2 ^ n) (a / 2 ^ n)
      (λ e. ones_sub-lt w (((2 ^ w - 1) - a) / 2 ^ n)) (λ e. bsr-by-below)

  moved : a * 2 ^ n < 2 ^ (n + w)
  moved = subst (λ (k : ℕ). a * 2 ^ n < 2 ^ k) (add_comm w n) (shl_lt w n ha)

  pub rol-by-below : n ≤ w → rol_by w a n < 2 ^ w
  rol-by-below p =
      or_lt w ((a * 2 ^ n) % 2 ^ w) (a * 2 ^ n / 2 ^ w) (mod-lt (a * 2 ^ n) (pow_pos w))
      (lt_of_lt_of_le (shr_lt n w moved) (pow_mono p))

module _ (w a n : ℕ) (ha : a < 2 ^ w) where
  pub bsr-below : WordBelow w (bsr_of w a n)
  unfolding bsr_of
  bsr-below = shifted-below w a n (bsr_by w a n) 0 (bsr-by-below w a n ha) (pow_pos w)

  pub shr_below : WordBelow w (shr_of w a n)
  shr_below = bsr-below

  pub asr-below : WordBelow w (asr_of w a n)
  unfolding asr_of
  asr-below = shifted-below w a n (asr_by w a n) (sign_fill w a) (asr-by-below w a n ha) (fill-below w a n)

  pub rol-below : 0 < w → WordBelow w (rol_of w a n)
  unfolding rol_of
  rol-below p =
      answer-below w a n (rol_by w a (rotate_count w n)) (rol-by-below w a (rotate_count w n) ha (le_of_lt (mod-lt n p)))

  pub ror-below : WordBelow w (ror_of w a n)
  unfolding ror_of
  ror-below =
      answer-below w a n (ror_by w a (rotate_count w n))
      (rol-by-below w a (w - rotate_count w n) ha (sub-le w (rotate_count w n)))
