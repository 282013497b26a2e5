-- Integers: an optional sign (000), then digits; "-2147483648 to 4294967295, taken modulo 2^32", at a width of w bits
-- -2^(w-1) to 2^w - 1, taken modulo 2^w.
-- Assumes nothing.
use Rattle.std.specs.Prelude.{ℕ, zero, suc, ◌+◌, ◌-◌, ◌*◌, ◌%◌, ◌^◌, min, Bool, List, [], ◌∷◌, length, Option, None, Some, Result, Ok, Err}
use Rattle.base_limits.specs.Limits.{word_values}
use Rattle.base_prelude.specs.Choice.{if_lt, if_true}
use Rattle.base_prelude.specs.Bytes.{byte_at}
use Rattle.base_limits.specs.Width.{bits_of}
use Rattle.base_limits.specs.declared.Width.{Width}
use Rattle.lex_spelling.specs.Classes.{is_digit}
use Rattle.lex_spelling.specs.Continuation.{joined}
use Rattle.lex_spelling.specs.Escape.{decoded}
use Rattle.lex_spelling.specs.declared.Decoded.{Decoded}
use Rattle.lex_lexeme.specs.declared.Decimal.{Decimal}

-- a digit, or the place where none stands
abbrev pub Digit : Type 0
Digit = Result Decoded ℕ

unfoldable pub digit_from : List ℕ → ℕ → Digit
digit_from s at = if_true (is_digit (byte_at s at)) (Ok (decoded (byte_at s at - 48) (at + 1))) (Err at)

-- the digit at a place, continuations read as if they were not there
unfoldable pub digit_at : List ℕ → ℕ → Digit
digit_at s at = digit_from s (joined s at)

-- digits, and the place behind them
pub record Digits : Type 0 where
  pub digits : List ℕ
  pub next : ℕ

unfoldable pub digit_more : Digit → (ℕ → Digits) → Digits
digit_more (Ok x) rest = record { digits = x.value ∷ (rest x.next).digits; next = (rest x.next).next }
digit_more (Err place) rest = record { digits = []; next = place }

unfoldable pub digits_within : ℕ → List ℕ → ℕ → Digits
digits_within zero s at = record { digits = []; next = at }
digits_within (suc k) s at = digit_more (digit_at s at) (λ next. digits_within k s next)

unfoldable pub digits_at : List ℕ → ℕ → Digits
digits_at s at = digits_within (suc (length s)) s at

-- the value of decimal digits
unfoldable pub value_from : ℕ → List ℕ → ℕ
value_from v [] = v
value_from v (d ∷ ds) = value_from (v * 10 + d) ds

abbrev pub value_of : List ℕ → ℕ
value_of ds = value_from 0 ds

abbrev pub half_of : Width → ℕ
half_of w = 2 ^ (bits_of w - 1)

abbrev pub whole_of : Width → ℕ
whole_of w = 2 ^ bits_of w

-- the word of an integer of a magnitude, below zero where negative; none where it is out of range
unfoldable pub integer_of : Width → Bool → ℕ → Option ℕ
integer_of w negative v =
    if_true negative
    (if_lt (half_of w) v None (Some ((whole_of w - v) % whole_of w)))
    (if_lt v (whole_of w) (Some v) None)

-- what the code keeps of digits: how many, their value where it is below 2 ^ 32, the place behind them
unfoldable pub decimal_from : ℕ → ℕ → Digits → Decimal
decimal_from count value d =
    record { count = count + length d.digits; value = min (value_from value d.digits) word_values; next = d.next }

unfoldable pub decimal_of : Digits → Decimal
decimal_of d = decimal_from 0 0 d
