-- Machine words of w bits, two's complement, as natural numbers below 2 ^ w. The rules are those of the word machine, each
-- for every width; a comment quotes the rule at 32 bits.
-- Assumes nothing.
use Rattle.std.specs.Prelude.{ℕ, ◌+◌, ◌-◌, ◌*◌, ◌/◌, ◌%◌, ◌^◌, Bool, true, false, not, ◌==◌, bit_and, bit_or, bit_xor, nat_le, nat_lt, Result, Ok, Err}
use Rattle.base_prelude.specs.Choice.{pick}
use Rattle.base_word.specs.declared.WordError.{WordError}
use Rattle.base_word.specs.declared.WordError.TheVariants.{Division, Shift}

-- a word, or why there is none
abbrev pub Answer : Type 0
Answer = Result ℕ WordError

-- the stop's number: 30 division, 31 shift count
abbrev pub error_stop : WordError → ℕ
error_stop Division = 30
error_stop Shift = 31

-- the stop's number for each answer, 0 for a word
abbrev pub stop_of : Answer → ℕ
stop_of (Ok a) = 0
stop_of (Err e) = error_stop e

-- ---- sum, difference, product

-- "`add`, `sub`, `mul` modulo 2^32"
unfoldable pub add_of : ℕ → ℕ → ℕ → ℕ
add_of w a b = (a + b) % 2 ^ w

-- "`add`, `sub`, `mul` modulo 2^32"
unfoldable pub sub_of : ℕ → ℕ → ℕ → ℕ
sub_of w a b = (a + (2 ^ w - b)) % 2 ^ w

-- "`add`, `sub`, `mul` modulo 2^32"
unfoldable pub mul_of : ℕ → ℕ → ℕ → ℕ
mul_of w a b = (a * b) % 2 ^ w

-- ---- sign and magnitude

-- the sign bit is set
abbrev pub negative : ℕ → ℕ → Bool
negative w a = nat_le (2 ^ (w - 1)) a

-- the magnitude of the signed value
abbrev pub magnitude : ℕ → ℕ → ℕ
magnitude w a = pick (negative w a) (2 ^ w - a) a

-- the word of -n
abbrev pub negated : ℕ → ℕ → ℕ
negated w n = (2 ^ w - n) % 2 ^ w

-- the word of a sign and a magnitude
abbrev pub signed_word : ℕ → Bool → ℕ → ℕ
signed_word w s n = pick s (negated w n) n

-- exactly one of the two signs is minus
abbrev pub differ : Bool → Bool → Bool
differ true t = not t
differ false t = t

-- ---- quotient and remainder

-- "`div` rounds toward zero"
abbrev pub quotient : ℕ → ℕ → ℕ → ℕ
quotient w a b = signed_word w (differ (negative w a) (negative w b)) (magnitude w a / magnitude w b)

-- "`mod` takes the sign of x"
abbrev pub remainder : ℕ → ℕ → ℕ → ℕ
remainder w a b = signed_word w (negative w a) (magnitude w a % magnitude w b)

-- "`div` of -2147483648 by -1": the one quotient that has no word
abbrev pub no_word : ℕ → ℕ → ℕ → Bool
no_word w a b = pick (a == 2 ^ (w - 1)) (b == 2 ^ w - 1) false

-- "zero divisor, or `div` of -2147483648 by -1: stop 30"
unfoldable pub div_of : ℕ → ℕ → ℕ → Answer
div_of w a b = pick (b == 0) (Err Division) (pick (no_word w a b) (Err Division) (Ok (quotient w a b)))

-- "zero divisor [..]: stop 30; `mod` there is 0": -2147483648 by -1 is not refused
unfoldable pub mod_of : ℕ → ℕ → ℕ → Answer
mod_of w a b = pick (b == 0) (Err Division) (Ok (remainder w a b))

-- ---- shifts and rotates

-- "a negative count is stop 31"
abbrev pub shift_answer : ℕ → ℕ → ℕ → Answer
shift_answer w n r = pick (negative w n) (Err Shift) (Ok r)

-- what a shift by n gives: `near` for a count below the width, `far` for "a count of 32 or more"
abbrev pub shifted : ℕ → ℕ → ℕ → ℕ → Answer
shifted w n near far = shift_answer w n (pick (nat_lt n w) near far)

-- "Rotates keep modulo 32": how far a rotate moves
abbrev pub rotate_count : ℕ → ℕ → ℕ
rotate_count w n = n % w

-- moved left by n bits, for every n: zeros from the right
abbrev pub shl_by : ℕ → ℕ → ℕ → ℕ
shl_by w a n = (a * 2 ^ n) % 2 ^ w

-- moved right by n bits, for every n: zeros from the left
abbrev pub bsr_by : ℕ → ℕ → ℕ → ℕ
bsr_by w a n = a / 2 ^ n

-- moved right by n bits, for every n: copies of the sign bit from the left
abbrev pub asr_by : ℕ → ℕ → ℕ → ℕ
asr_by w a n = pick (negative w a) ((2 ^ w - 1) - bsr_by w ((2 ^ w - 1) - a) n) (bsr_by w a n)

-- rotated left by n bits, n at most w: the bits that leave at the left come back at the right
abbrev pub rol_by : ℕ → ℕ → ℕ → ℕ
rol_by w a n = bit_or ((a * 2 ^ n) % 2 ^ w) (a * 2 ^ n / 2 ^ w)

-- rotated right by n bits, n at most w
abbrev pub ror_by : ℕ → ℕ → ℕ → ℕ
ror_by w a n = rol_by w a (w - n)

-- "0 or -1 by the sign of x": every bit a copy of the sign bit
abbrev pub sign_fill : ℕ → ℕ → ℕ
sign_fill w a = pick (negative w a) (2 ^ w - 1) 0

-- "For `shl`, `shr` and `bsr` a count of 32 or more gives 0": to the left
unfoldable pub shl_of : ℕ → ℕ → ℕ → Answer
shl_of w a n = shifted w n (shl_by w a n) 0

-- "For `shl`, `shr` and `bsr` a count of 32 or more gives 0": to the right, zeros from the left
unfoldable pub bsr_of : ℕ → ℕ → ℕ → Answer
bsr_of w a n = shifted w n (bsr_by w a n) 0

-- "`shr` is `bsr`"
abbrev pub shr_of : ℕ → ℕ → ℕ → Answer
shr_of = bsr_of

-- "for `asr` it gives 0 or -1 by the sign of x": to the right, the sign bit from the left
unfoldable pub asr_of : ℕ → ℕ → ℕ → Answer
asr_of w a n = shifted w n (asr_by w a n) (sign_fill w a)

-- "Rotates keep modulo 32": to the left
unfoldable pub rol_of : ℕ → ℕ → ℕ → Answer
rol_of w a n = shift_answer w n (rol_by w a (rotate_count w n))

-- "Rotates keep modulo 32": to the right
unfoldable pub ror_of : ℕ → ℕ → ℕ → Answer
ror_of w a n = shift_answer w n (ror_by w a (rotate_count w n))

-- ---- bits

-- the bitwise and
unfoldable pub and_of : ℕ → ℕ → ℕ → ℕ
and_of w a b = bit_and a b

-- the bitwise or
unfoldable pub or_of : ℕ → ℕ → ℕ → ℕ
or_of w a b = bit_or a b

-- the bitwise exclusive or
unfoldable pub xor_of : ℕ → ℕ → ℕ → ℕ
xor_of w a b = bit_xor a b

-- all bits inverted
unfoldable pub not_of : ℕ → ℕ → ℕ
not_of w a = (2 ^ w - 1) - a

-- ---- tests

-- the place of a word in the signed order: the word with its sign bit turned
abbrev pub rank : ℕ → ℕ → ℕ
rank w a = (a + 2 ^ (w - 1)) % 2 ^ w

-- "Tests are signed": the first is less
unfoldable pub lt_of : ℕ → ℕ → ℕ → Bool
lt_of w a b = nat_lt (rank w a) (rank w b)

-- "Tests are signed": the first is greater
unfoldable pub gt_of : ℕ → ℕ → ℕ → Bool
gt_of w a b = lt_of w b a

-- "Tests are signed": the first is not less
unfoldable pub ge_of : ℕ → ℕ → ℕ → Bool
ge_of w a b = not (lt_of w a b)

-- "Tests are signed": the first is not greater
unfoldable pub le_of : ℕ → ℕ → ℕ → Bool
le_of w a b = not (lt_of w b a)

-- "Tests are signed": the words are equal
unfoldable pub eq_of : ℕ → ℕ → ℕ → Bool
eq_of w a b = a == b

-- "Tests are signed": the words differ
unfoldable pub ne_of : ℕ → ℕ → ℕ → Bool
ne_of w a b = not (eq_of w a b)
