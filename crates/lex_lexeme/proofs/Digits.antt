-- Digits and their value.
-- Assumes nothing.
use mathlib.Core.Path.{◌≡◌, refl, sym, ◌∙◌, ap, subst}
use mathlib.Core.Bool.{Bool, true, false}
use mathlib.Core.List.{List, [], ◌∷◌}
use Prim.Native.Nat.{ℕ, zero, suc, ◌+◌, ◌-◌, ◌*◌, ◌%◌, ◌≤◌, ◌<◌, min}
use native.Mathlib.Nat.{min-eq_left, min-eq_right, mod-lt}
use native.Mathlib.Decide.{dec_lt}
use native.Mathlib.Omega.{arith}
use lib.ListN.{length}
use Rattle.base_prelude.specs.Choice.{if_lt}
use Rattle.base_prelude.specs.Bytes.{byte_at}
use Rattle.base_prelude.proofs.Choice.{tests, either, either_true, if_true-no, true-false}
use Rattle.base_prelude.proofs.Bytes.{byte-within}
use Rattle.base_limits.specs.declared.Width.{Width}
use Rattle.base_limits.specs.declared.Width.TheVariants.{Bits32, Bits16}
use Rattle.lex_spelling.specs.Classes.{is_digit}
use Rattle.lex_spelling.specs.Continuation.{joined}
use Rattle.lex_spelling.proofs.Ends.{byte_past, digit-byte, joined-from, joined_in}
use Rattle.lex_lexeme.specs.Number.{Digit, digit_from, digit_at, Digits, digit_more, digits_within, digits_at, value_from, value_of, half_of, whole_of, integer_of, decimal_from, decimal_of}
use Rattle.lex_spelling.specs.Escape.{decoded}
use Rattle.lex_spelling.specs.declared.Decoded.{Decoded}
use Rattle.std.proofs.Common.{None, Some, Ok, Err}
use Rattle.lex_lexeme.specs.declared.Decimal.{Decimal}

-- a digit's byte
digit-range : (c : ℕ) → is_digit c ≡ true → (48 ≤ c) × (c < 58)
unfolding is_digit
digit-range c =
    either (λ (b : Bool). b ≡ true → (48 ≤ c) × (c < 58)) c 48 _ _ (λ _ e. true-false (sym e)) (λ h.
    either (λ (b : Bool). b ≡ true → (48 ≤ c) × (c < 58)) c 58 _ _ (λ g _. (h, g)) (λ _ e. true-false (sym e)))

pub digit_low : (c : ℕ) (b : Bool) → b ≡ is_digit c → b ≡ true → 48 ≤ c
digit_low c b p e = (digit-range c (sym p ∙ e)).0

module _ (s : List ℕ) (at c : ℕ) (b : Bool) (p : c ≡ byte_at s at) (q : b ≡ is_digit c) where
  pub digit-one : b ≡ true → Ok (decoded (c - 48) (at + 1)) ≡ digit_from s at
  unfolding digit_from
  digit-one e = rw (← p, ← q) (search tests)

  pub digit-stop : b ≡ false → Err at ≡ digit_from s at
  unfolding digit_from
  digit-stop e = rw (← p, ← q) (search tests)

no_digit : is_digit 256 ≡ false
unfolding is_digit if_lt
no_digit = refl

past_stop : (s : List ℕ) (i : ℕ) → length s ≤ i → Err i ≡ digit_from s i
unfolding digit_from
past_stop s i h = sym (if_true-no _ _ (ap is_digit (byte_past s i h) ∙ no_digit))

module _ (s : List ℕ) (at i : ℕ) (p : i ≡ joined s at) where
  pub digit-here : (r : Digit) → r ≡ digit_from s i → r ≡ digit_at s at
  unfolding digit_at
  digit-here r h = h ∙ ap (digit_from s) p

  pub digit-past : length s ≤ i → Err i ≡ digit_at s at
  unfolding digit_at
  digit-past h = past_stop s i h ∙ ap (digit_from s) p

pub ruleset digiting = (digit-one, digit-stop, digit-here, digit-past)

-- a digit that was read stands within the text
abbrev pub DigitIn : List ℕ → ℕ → Digit → Type 0
DigitIn s at (Ok x) = (at < x.next) × (x.next ≤ length s) × (x.value < 10)
DigitIn s at (Err place) = (at ≤ place) × (at ≤ length s → place ≤ length s)

from_in : (s : List ℕ) (at : ℕ) → DigitIn s at (digit_from s at)
unfolding digit_from
from_in s at =
    either_true (DigitIn s at) (is_digit (byte_at s at)) _ _
    (λ e. let w : at < length s = byte-within s at (digit-byte (byte_at s at) e) in
    let r : (48 ≤ byte_at s at) × (byte_at s at < 58) = digit-range (byte_at s at) e in
    (omega arith, omega arith, omega (arith, r.0, r.1)))
    (λ _. (omega arith, λ h. h))

later : (s : List ℕ) (at i : ℕ) (x : Digit) → at ≤ i → (at ≤ length s → i ≤ length s) → DigitIn s i x → DigitIn s at x
later s at i (Ok x) h g d = (omega (arith, d.0), d.1, d.2)
later s at i (Err p) h g d = (omega (arith, d.0), λ l. d.1 (g l))

pub digit-in : (s : List ℕ) (at : ℕ) (x : Digit) → x ≡ digit_at s at → DigitIn s at x
unfolding digit_at
digit-in s at x e =
    subst (DigitIn s at) (sym e) (later s at (joined s at) (digit_from s (joined s at)) (joined-from s at) (joined_in s at) (from_in s (joined s at)))

-- the value of more digits is no lower
value-up : (v : ℕ) (ds : List ℕ) → v ≤ value_from v ds
unfolding value_from
value-up v [] = omega arith
value-up v (d ∷ ds) = omega (arith, value-up (v * 10 + d) ds)

-- a value past 2 ^ 32 may be held at 2 ^ 32
cap-early : (v : ℕ) (ds : List ℕ) → min (value_from (min v 4294967296) ds) 4294967296 ≡ min (value_from v ds) 4294967296
cap-early v ds =
    elim (dec_lt 4294967296 v) [
      | yes h ↦ let m : min v 4294967296 ≡ 4294967296 = min-eq_right (omega arith) in
          min-eq_right (omega (arith, value-up (min v 4294967296) ds)) ∙ sym (min-eq_right (omega (arith, value-up v ds)))
      | no h ↦ ap (λ (x : ℕ). min (value_from x ds) 4294967296) (min-eq_left (omega arith))
    ]

decimal-more : (count value d : ℕ) (t : Digits)
    → decimal_from count value (record { digits = d ∷ t.digits; next = t.next }) ≡ decimal_from (count + 1) (min (value * 10 + d) 4294967296) t
unfolding decimal_from value_from
decimal-more count value d t =
    let e : count + suc (length t.digits) ≡ count + 1 + length t.digits = omega arith in
    ap (λ (n : ℕ). record { count = n; value = min (value_from (value * 10 + d) t.digits) 4294967296; next = t.next }) e
    ∙ ap (λ (n : ℕ). record { count = count + 1 + length t.digits; value = n; next = t.next }) (sym (cap-early (value * 10 + d) t.digits))

decimal-end : (count value p : ℕ) → value ≤ 4294967296 → decimal_from count value (record { digits = []; next = p }) ≡ record { count = count; value = value; next = p }
unfolding decimal_from value_from
decimal-end count value p h =
    let e : count + 0 ≡ count = omega arith in
    ap (λ (n : ℕ). record { count = n; value = min value 4294967296; next = p }) e ∙ ap (λ (n : ℕ). record { count = count; value = n; next = p }) (min-eq_left h)

digits-by : (k : ℕ) (s : List ℕ) (at : ℕ) (x : Digit) → x ≡ digit_at s at → digits_within (suc k) s at ≡ digit_more x (λ n. digits_within k s n)
unfolding digits_within
digits-by k s at x e = ap (λ (y : Digit). digit_more y (λ n. digits_within k s n)) (sym e)

digits-one : (k : ℕ) (s : List ℕ) (at : ℕ) (y : Decoded) (x : Digit) → x ≡ digit_at s at → x ≡ Ok y
    → digits_within (suc k) s at ≡ record { digits = y.value ∷ (digits_within k s y.next).digits; next = (digits_within k s y.next).next }
unfolding digit_more
digits-one k s at y x e f = digits-by k s at x e ∙ ap (λ (z : Digit). digit_more z (λ n. digits_within k s n)) f

digits-stop : (k : ℕ) (s : List ℕ) (at p : ℕ) (x : Digit) → x ≡ digit_at s at → x ≡ Err p → digits_within (suc k) s at ≡ record { digits = []; next = p }
unfolding digit_more
digits-stop k s at p x e f = digits-by k s at x e ∙ ap (λ (y : Digit). digit_more y (λ n. digits_within k s n)) f

-- the loop of `read_digits`
pub record Counting (s : List ℕ) (at i count value : ℕ) : Type 0 where
  pub few : count ≤ i
  pub fits : count ≤ length s
  pub low : value ≤ 4294967296
  pub more : ℕ
  pub enough : length s - i ≤ more
  pub rest : decimal_from count value (digits_within (suc more) s i) ≡ decimal_of (digits_at s at)

pub counting-start : (s : List ℕ) (at : ℕ) → Counting s at at 0 0
unfolding digits_at decimal_of
counting-start s at = record { few = omega arith; fits = omega arith; low = omega arith; more = length s; enough = omega arith; rest = refl }

more-counted : (s : List ℕ) (at i count value : ℕ) (y : Decoded) (value' : ℕ) (x : Digit) (k : ℕ) → length s - i ≤ k
    → decimal_from count value (digits_within (suc k) s i) ≡ decimal_of (digits_at s at) → count ≤ i → DigitIn s i (Ok y)
    → x ≡ digit_at s i → x ≡ Ok y → value' ≡ min (value * 10 + y.value) 4294967296 → Counting s at y.next (count + 1) value'
more-counted s at i count value y value' x zero g r f a p e m = let z : ⊥ = omega (arith, a.0, a.1) in absurd z
more-counted s at i count value y value' x (suc k) g r f a p e m =
    record {
      few = omega (arith, a.0);
      fits = omega (arith, a.0, a.1);
      low = omega arith;
      more = k;
      enough = omega (arith, a.0);
      rest = ap (λ (v : ℕ). decimal_from (count + 1) v (digits_within (suc k) s y.next)) m ∙ sym (decimal-more count value y.value (digits_within (suc k) s y.next)) ∙ ap (decimal_from count value) (sym (digits-one (suc k) s i y x p e)) ∙ r;
    }

module _ (s : List ℕ) (at i count value : ℕ) (x : Digit) where
  one-here : (y : Decoded) → x ≡ digit_at s i → x ≡ Ok y → DigitIn s i (Ok y)
  one-here y p e = subst (DigitIn s i) e (digit-in s i x p)

  pub counting_more : (y : Decoded) (value' : ℕ) → Counting s at i count value → x ≡ digit_at s i → x ≡ Ok y → value' ≡ min (value * 10 + y.value) 4294967296
      → Counting s at y.next (count + 1) value'
  counting_more y value' h p e m =
      more-counted s at i count value y value' x h.more h.enough h.rest h.few (one-here y p e) p e m

  pub counting-less : (y : Decoded) → Counting s at i count value → x ≡ digit_at s i → x ≡ Ok y → length s - y.next < length s - i
  counting-less y h p e = let a : DigitIn s i (Ok y) = one-here y p e in omega (arith, a.0, a.1)

  pub counting-stop : (b : ℕ) → Counting s at i count value → x ≡ digit_at s i → x ≡ Err b
      → record { count = count; value = value; next = b } ≡ decimal_of (digits_at s at)
  counting-stop b h p e =
      sym (decimal-end count value b h.low) ∙ ap (decimal_from count value) (sym (digits-stop h.more s i b x p e)) ∙ h.rest

pub ruleset counting = (counting-start, counting_more, counting-stop)

-- the bounds of each width
pub whole-most : (w : Width) → (half_of w ≤ whole_of w) × (whole_of w ≤ 4294967296) × (1 ≤ whole_of w)
whole-most Bits32 = (omega arith, omega arith, omega arith)
whole-most Bits16 = (omega arith, omega arith, omega arith)

module _ (w : Width) where
  pub half-32 : w ≡ Bits32 → 2147483648 ≡ half_of w
  half-32 e = ap (λ (x : Width). half_of x) (sym e)

  pub half-16 : w ≡ Bits16 → 32768 ≡ half_of w
  half-16 e = ap (λ (x : Width). half_of x) (sym e)

  pub whole-32 : w ≡ Bits32 → 4294967296 ≡ whole_of w
  whole-32 e = ap (λ (x : Width). whole_of x) (sym e)

  pub whole-16 : w ≡ Bits16 → 65536 ≡ whole_of w
  whole-16 e = ap (λ (x : Width). whole_of x) (sym e)

pub ruleset widths = (half-32, half-16, whole-32, whole-16)

module _ (w : Width) (neg : Bool) (v whole half : ℕ) (p : whole ≡ whole_of w) where
  pub word-far : neg ≡ true → half ≡ half_of w → half < v → None ≡ integer_of w neg v
  unfolding integer_of
  word-far e q h = rw (← q) (search tests)

  pub word-negative : neg ≡ true → half ≡ half_of w → v ≤ half → Some ((whole - v) % whole) ≡ integer_of w neg v
  unfolding integer_of
  word-negative e q h = rw (← p, ← q) (search tests)

  pub word-positive : neg ≡ false → v < whole → Some v ≡ integer_of w neg v
  unfolding integer_of
  word-positive e h = rw (← p) (search tests)

  pub word-past : neg ≡ false → whole ≤ v → None ≡ integer_of w neg v
  unfolding integer_of
  word-past e h = rw (← p) (search tests)

  pub word-order : half ≡ half_of w → v ≤ half → v ≤ whole
  word-order q h = omega (arith, (whole-most w).0)

  pub word-one : 1 ≤ whole
  word-one = omega (arith, (whole-most w).2)

  pub word_fits : (whole - v) % whole < 4294967296
  word_fits = omega (arith, (whole-most w).1, (whole-most w).2, mod-lt (whole - v) {m = whole} (omega (arith, (whole-most w).2)))

  pub word_small : v < whole → v < 4294967296
  word_small h = omega (arith, (whole-most w).1)

pub ruleset wording = (word-far, word-negative, word-positive, word-past)

-- a value held at 2 ^ 32 gives the same
number-capped : (w : Width) (neg : Bool) (v : ℕ) → integer_of w neg (min v 4294967296) ≡ integer_of w neg v
number-capped w neg v =
    elim (dec_lt 4294967296 v) [
      | yes h ↦ ap (integer_of w neg) (min-eq_right (omega arith)) ∙ sym (far w neg 4294967296 (omega arith)) ∙ far w neg v (omega arith)
      | no h ↦ ap (integer_of w neg) (min-eq_left (omega arith))
    ]
  where
    far : (w : Width) (neg : Bool) (v : ℕ) → 4294967296 ≤ v → None ≡ integer_of w neg v
    far Bits32 true v h = word-far Bits32 true v 4294967296 2147483648 refl refl refl (omega arith)
    far Bits32 false v h = word-past Bits32 false v 4294967296 2147483648 refl refl (omega arith)
    far Bits16 true v h = word-far Bits16 true v 65536 32768 refl refl refl (omega arith)
    far Bits16 false v h = word-past Bits16 false v 65536 32768 refl refl (omega arith)

-- what the code keeps of digits tells their number
pub decimal-number : (w : Width) (neg : Bool) (d : Decimal) (t : Digits) → d ≡ decimal_of t → integer_of w neg d.value ≡ integer_of w neg (value_of t.digits)
unfolding decimal_of decimal_from
decimal-number w neg d t e = ap (λ (x : Decimal). integer_of w neg x.value) e ∙ number-capped w neg (value_from 0 t.digits)

pub decimal-count : (d : Decimal) (t : Digits) → d ≡ decimal_of t → d.count ≡ length t.digits
unfolding decimal_of decimal_from
decimal-count d t e =
    let z : 0 + length t.digits ≡ length t.digits = omega arith in ap (λ (x : Decimal). x.count) e ∙ z

pub decimal-next : (d : Decimal) (t : Digits) → d ≡ decimal_of t → d.next ≡ t.next
unfolding decimal_of decimal_from
decimal-next d t e = ap (λ (x : Decimal). x.next) e
