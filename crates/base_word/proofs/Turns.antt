-- A rotate by n, for every count, is n rotates by one bit.
-- Assumes nothing.
use Rattle.std.proofs.Common.{Err, Ok}
use Rattle.std.proofs.Common.{◌≡◌, ℕ, zero, suc, ◌+◌, ◌-◌, ◌*◌, ◌/◌, ◌%◌, ◌^◌, ◌<◌, ◌≤◌, Bool, true, false, ltb, [], ◌∷◌, sym, refl, ap, ◌∙◌, subst, ap₂, add-zero, add_assoc, mod-lt, mod-eq_of_lt, mul_assoc, mul_comm, add-mul, pow-suc, div-add-mod', zero-add, zero-mul, sub-le, arith, pow_pos, pow-add, shr_lt, ltb-false, ltb-true}
use native.Mathlib.Nat.{mod-add-mod, mod_self}
use lib.Arith.{digits_lt}
use lib.Pow.{split, high, low}
use Rattle.base_word.specs.Shifts.{turn, turns}
use Rattle.base_word.specs.Word.{negative, shift_answer, rol_by, ror_by, rol_of, ror_of}
use Rattle.base_word.specs.declared.WordError.TheVariants.{Shift}
use Rattle.base_word.specs.Answers.{OfWord}
use Rattle.base_word.proofs.Answers.{choice}
use Rattle.base_word.proofs.Bounds.{rol-by-below}
use Rattle.base_word.proofs.Inverse.{rol-parts, rol-rol}

-- the next bit: a word of k bits hi, one bit b and i bits l
module _ (i k hi b l : ℕ) (p : hi < 2 ^ k) (q : b < 2) (r : l < 2 ^ i) where
  abbrev word : ℕ
  word = (hi * 2 + b) * 2 ^ i + l

  abbrev rest : ℕ
  rest = l * 2 ^ suc k + hi * 2

  rest-fits : rest < 2 ^ (i + suc k)
  rest-fits =
      subst (λ (x : ℕ). rest < x) (sym (pow-add 2 i (suc k)))
      (digits_lt r (let d : hi * 2 < 2 ^ suc k = omega (arith, pow-suc 2 k) in d))

  word-parts : word ≡ hi * 2 ^ suc i + (b * 2 ^ i + l)
  word-parts =
      ap (λ (x : ℕ). x + l) (add-mul (hi * 2) b (2 ^ i) ∙ ap (λ (x : ℕ). x + b * 2 ^ i) (mul_assoc hi 2 (2 ^ i) ∙ ap (λ (x : ℕ). hi * x) (mul_comm 2 (2 ^ i) ∙ sym (pow-suc 2 i))))
      ∙ add_assoc (hi * 2 ^ suc i) (b * 2 ^ i) l

  moved : rol_by (i + suc k) word k ≡ (b * 2 ^ i + l) * 2 ^ k + hi
  moved =
      ap₂ (λ (v x : ℕ). rol_by v x k) (let e : i + suc k ≡ suc i + k = omega arith in e) word-parts
      ∙ rol-parts (suc i) k hi (b * 2 ^ i + l) p
      (subst (λ (x : ℕ). b * 2 ^ i + l < x) (mul_comm 2 (2 ^ i) ∙ sym (pow-suc 2 i)) (digits_lt q r))

  doubled : ((b * 2 ^ i + l) * 2 ^ k + hi) * 2 ≡ b * 2 ^ (i + suc k) + rest
  doubled =
      add-mul ((b * 2 ^ i + l) * 2 ^ k) hi 2
      ∙ ap (λ (x : ℕ). x + hi * 2) (mul_assoc (b * 2 ^ i + l) (2 ^ k) 2 ∙ ap (λ (x : ℕ). (b * 2 ^ i + l) * x) (sym (pow-suc 2 k)) ∙ add-mul (b * 2 ^ i) l (2 ^ suc k) ∙ ap (λ (x : ℕ). x + l * 2 ^ suc k) (mul_assoc b (2 ^ i) (2 ^ suc k) ∙ ap (λ (x : ℕ). b * x) (sym (pow-add 2 i (suc k)))))
      ∙ add_assoc (b * 2 ^ (i + suc k)) (l * 2 ^ suc k) (hi * 2)

  turned : turn (i + suc k) ((b * 2 ^ i + l) * 2 ^ k + hi) ≡ rest + b
  turned =
      ap (λ (x : ℕ). x % 2 ^ (i + suc k) + x / 2 ^ (i + suc k)) doubled
      ∙ ap₂ (λ (x y : ℕ). x + y) (low b (i + suc k) rest-fits) (high b (i + suc k) rest-fits)

  more : rol_by (i + suc k) word (suc k) ≡ l * 2 ^ suc k + (hi * 2 + b)
  more = rol-parts i (suc k) (hi * 2 + b) l (omega (arith, pow-suc 2 k)) r

  turn-parts : turn (i + suc k) (rol_by (i + suc k) word k) ≡ rol_by (i + suc k) word (suc k)
  turn-parts = ap (turn (i + suc k)) moved ∙ turned ∙ add_assoc (l * 2 ^ suc k) (hi * 2) b ∙ sym more

-- a rotate by one bit more
turn-rol : (w a k : ℕ) → a < 2 ^ w → k < w → turn w (rol_by w a k) ≡ rol_by w a (suc k)
turn-rol w a k h p = subst (λ (v : ℕ). turn v (rol_by v a k) ≡ rol_by v a (suc k)) wide (subst (λ (x : ℕ). turn (i + suc k) (rol_by (i + suc k) x k) ≡ rol_by (i + suc k) x (suc k)) parts step)
  where
    i : ℕ
    i = w - suc k

    wide : w - suc k + suc k ≡ w
    wide = omega arith

    parts : (a / 2 ^ i / 2 * 2 + a / 2 ^ i % 2) * 2 ^ i + a % 2 ^ i ≡ a
    parts = ap (λ (x : ℕ). x * 2 ^ i + a % 2 ^ i) (div-add-mod' (a / 2 ^ i) 2) ∙ split a i

    few : a / 2 ^ i / 2 < 2 ^ k
    few =
        omega (arith, pow-suc 2 k, shr_lt (suc k) i (subst (λ (v : ℕ). a < 2 ^ v) (let e : w ≡ suc k + (w - suc k) = omega arith in e) h))

    step : turn (i + suc k) (rol_by (i + suc k) ((a / 2 ^ i / 2 * 2 + a / 2 ^ i % 2) * 2 ^ i + a % 2 ^ i) k)
        ≡ rol_by (i + suc k) ((a / 2 ^ i / 2 * 2 + a / 2 ^ i % 2) * 2 ^ i + a % 2 ^ i) (suc k)
    step = turn-parts i k (a / 2 ^ i / 2) (a / 2 ^ i % 2) (a % 2 ^ i) few (mod-lt (a / 2 ^ i) (omega arith)) (mod-lt a (pow_pos i))

rol_none : (w a : ℕ) → a < 2 ^ w → rol_by w a 0 ≡ a
rol_none w a h =
    ap₂ (λ (v x : ℕ). rol_by v x 0) (sym (add-zero w)) (sym (ap (λ (x : ℕ). x + a) (zero-mul (2 ^ w)) ∙ zero-add a))
    ∙ rol-parts w 0 0 a (pow_pos 0) h ∙ (let e : a * 2 ^ 0 + 0 ≡ a = omega arith in e)

rol-whole : (w a : ℕ) → a < 2 ^ w → rol_by w a w ≡ a
rol-whole w a h =
    ap₂ (λ (v x : ℕ). rol_by v x w) (sym (zero-add w)) (let e : a ≡ a * 2 ^ 0 + 0 = omega arith in e)
    ∙ rol-parts 0 w a 0 h (pow_pos 0) ∙ ap (λ (x : ℕ). x + a) (zero-mul (2 ^ w)) ∙ zero-add a

-- by the width it comes round
rol-round : (w a m : ℕ) → a < 2 ^ w → m ≤ w → rol_by w a m ≡ rol_by w a (m % w)
rol-round w a m h p = go (ltb m w) refl
  where
    go : (t : Bool) → ltb m w ≡ t → rol_by w a m ≡ rol_by w a (m % w)
    go true e = ap (rol_by w a) (sym (mod-eq_of_lt (ltb-true m w e)))
    go false e =
        let d : m ≡ w = omega (arith, ltb-false m w e)
        in ap (rol_by w a) d ∙ rol-whole w a h ∙ sym (rol_none w a h) ∙ ap (rol_by w a) (sym (mod_self w)) ∙ ap (λ (k : ℕ). rol_by w a (k % w)) (sym d)

-- n rotates by one bit
turns-rol : (w a n : ℕ) → 0 < w → a < 2 ^ w → turns w n a ≡ rol_by w a (n % w)
turns-rol w a zero p h = sym (ap (rol_by w a) (mod-eq_of_lt p) ∙ rol_none w a h)
turns-rol w a (suc n) p h =
    ap (turn w) (turns-rol w a n p h)
    ∙ turn-rol w a (n % w) h (mod-lt n p)
    ∙ rol-round w a (suc (n % w)) h (mod-lt n p)
    ∙ ap (rol_by w a) (ap (λ (k : ℕ). k % w) (let e : suc (n % w) ≡ n % w + 1 = omega arith in e) ∙ mod-add-mod n w 1 ∙ ap (λ (k : ℕ). k % w) (let e : n + 1 ≡ suc n = omega arith in e))

-- for every count `rol` gives the word rotated so often by one bit
pub rol-every : (w a n : ℕ) → 0 < w → a < 2 ^ w → rol_of w a n ≡ shift_answer w n (turns w n a)
unfolding rol_of
rol-every w a n p h = ap (shift_answer w n) (sym (turns-rol w a n p h))

-- where `ror` is not refused, so many rotates by one bit to the left undo it
pub ror-every : (w a n : ℕ) → 0 < w → a < 2 ^ w → OfWord (λ (r : ℕ). turns w n r ≡ a) (ror_of w a n)
unfolding ror_of
ror-every w a n p h =
    choice (OfWord (λ (r : ℕ). turns w n r ≡ a)) (negative w n) (Err Shift) (Ok (ror_by w a (n % w))) (λ e. tt)
    (λ e. turns-rol w (ror_by w a (n % w)) n p (rol-by-below w a (w - n % w) h (sub-le w (n % w))) ∙ back)
  where
    wide : n % w + (w - n % w) ≡ w
    wide = omega (arith, mod-lt n p)

    back : rol_by w (ror_by w a (n % w)) (n % w) ≡ a
    back =
        ap (λ (v : ℕ). rol_by v (rol_by v a (w - n % w)) (n % w)) (sym wide)
        ∙ rol-rol (n % w) (w - n % w) a (subst (λ (v : ℕ). a < 2 ^ v) (sym wide) h)

-- 1001 turned 0 to 4 times, of four bits
pub turns-good : turns 4 0 9 ∷ turns 4 1 9 ∷ turns 4 2 9 ∷ turns 4 3 9 ∷ turns 4 4 9 ∷ [] ≡ 9 ∷ 3 ∷ 6 ∷ 12 ∷ 9 ∷ []
turns-good = refl
