-- Operations that undo each other, at every width.
-- Assumes nothing.
use Rattle.std.proofs.Common.{Err, Ok}
use Rattle.std.proofs.Common.{◌≡◌, ℕ, ◌+◌, ◌-◌, ◌*◌, ◌/◌, ◌%◌, ◌^◌, ◌<◌, ◌≤◌, sym, ap, ◌∙◌, subst, ap₂, le_of_lt, mod-lt, mod-eq_of_lt, mul_assoc, add-mul, add_comm, sub-add_cancel, arith, pow_pos, pow-add, shl_lt, shr_lt}
use native.Mathlib.Nat.{mod-add-mod, add-mod_right}
use lib.Pow.{split, high, low}
use lib.Bits.{bit_or, or_shifted}
use Rattle.base_word.specs.declared.WordError.TheVariants.{Shift}
use Rattle.base_word.specs.Answers.{OfWord}
use Rattle.base_word.proofs.Answers.{choice}
use Rattle.base_word.specs.Word.{add_of, sub_of, negative, shift_answer, rotate_count, rol_by, ror_by, rol_of, ror_of}

module _ (w a b : ℕ) (ha : a < 2 ^ w) (hb : b < 2 ^ w) where
  around : (a + 2 ^ w) % 2 ^ w ≡ a
  around = add-mod_right a (2 ^ w) ∙ mod-eq_of_lt ha

  -- adding what was subtracted gives the word back
  pub add-sub : add_of w (sub_of w a b) b ≡ a
  unfolding add_of sub_of
  add-sub =
      let e : a + (2 ^ w - b) + b ≡ a + 2 ^ w = omega arith
      in mod-add-mod (a + (2 ^ w - b)) (2 ^ w) b ∙ ap (λ (n : ℕ). n % 2 ^ w) e ∙ around

  -- subtracting what was added gives the word back
  pub sub-add : sub_of w (add_of w a b) b ≡ a
  unfolding add_of sub_of
  sub-add =
      let e : a + b + (2 ^ w - b) ≡ a + 2 ^ w = omega arith
      in mod-add-mod (a + b) (2 ^ w) (2 ^ w - b) ∙ ap (λ (n : ℕ). n % 2 ^ w) e ∙ around

-- a rotate by k exchanges the k high bits and the j low ones
pub rol-parts : (j k hi lo : ℕ) → hi < 2 ^ k → lo < 2 ^ j → rol_by (j + k) (hi * 2 ^ j + lo) k ≡ lo * 2 ^ k + hi
rol-parts j k hi lo p q = ap₂ bit_or low_part high_part ∙ or_shifted lo k hi p
  where
    product : (hi * 2 ^ j + lo) * 2 ^ k ≡ hi * 2 ^ (j + k) + lo * 2 ^ k
    product =
        add-mul (hi * 2 ^ j) lo (2 ^ k)
        ∙ ap (λ (x : ℕ). x + lo * 2 ^ k) (mul_assoc hi (2 ^ j) (2 ^ k) ∙ ap (λ (x : ℕ). hi * x) (sym (pow-add 2 j k)))

    low_part : (hi * 2 ^ j + lo) * 2 ^ k % 2 ^ (j + k) ≡ lo * 2 ^ k
    low_part = ap (λ (x : ℕ). x % 2 ^ (j + k)) product ∙ low hi (j + k) (shl_lt j k q)

    high_part : (hi * 2 ^ j + lo) * 2 ^ k / 2 ^ (j + k) ≡ hi
    high_part = ap (λ (x : ℕ). x / 2 ^ (j + k)) product ∙ high hi (j + k) (shl_lt j k q)

-- a rotate by k and one by j, of j + k bits, give the word back
pub rol-rol : (j k a : ℕ) → a < 2 ^ (j + k) → rol_by (j + k) (rol_by (j + k) a k) j ≡ a
rol-rol j k a h =
    ap (λ (x : ℕ). rol_by (j + k) x j) (sym (ap (λ (x : ℕ). rol_by (j + k) x k) (split a j)) ∙ rol-parts j k (a / 2 ^ j) (a % 2 ^ j) few (mod-lt a (pow_pos j)))
    ∙ ap (λ (w : ℕ). rol_by w (a % 2 ^ j * 2 ^ k + a / 2 ^ j) j) (add_comm j k)
    ∙ rol-parts k j (a % 2 ^ j) (a / 2 ^ j) (mod-lt a (pow_pos j)) few
    ∙ split a j
  where
    few : a / 2 ^ j < 2 ^ k
    few = shr_lt k j (subst (λ (n : ℕ). a < 2 ^ n) (add_comm j k) h)

-- a rotate to the right undoes the rotate to the left by the same count
pub ror-rol : (w a n : ℕ) → n ≤ w → a < 2 ^ w → ror_by w (rol_by w a n) n ≡ a
ror-rol w a n p h =
    ap (λ (v : ℕ). rol_by v (rol_by v a n) (w - n)) (sym e) ∙ rol-rol (w - n) n a (subst (λ (v : ℕ). a < 2 ^ v) (sym e) h)
  where
    e : w - n + n ≡ w
    e = sub-add_cancel p

-- where `rol` is not refused, `ror` of its word by the same count gives the word back
pub ror-after-rol : (w a n : ℕ) → 0 < w → a < 2 ^ w → OfWord (λ (r : ℕ). ror_of w r n ≡ Ok a) (rol_of w a n)
unfolding rol_of ror_of
ror-after-rol w a n p h =
    choice (OfWord (λ (r : ℕ). shift_answer w n (ror_by w r (rotate_count w n)) ≡ Ok a)) (negative w n) (Err Shift)
    (Ok (rol_by w a (rotate_count w n))) (λ e. tt) (λ e. rw e (ap Ok (ror-rol w a (rotate_count w n) (le_of_lt (mod-lt n p)) h)))
