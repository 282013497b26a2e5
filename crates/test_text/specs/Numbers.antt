-- Numbers of a case: with a sign, of 64 bits, and the arguments of a start.
-- Assumes nothing.
use Rattle.std.specs.Prelude.{ℕ, suc, ◌+◌, ◌-◌, ◌*◌, ◌%◌, Bool, true, false, List, length, drop, nat_lt, slice_set}
use Rattle.base_prelude.specs.Choice.{if_lt, if_eq}
use Rattle.base_prelude.specs.Bytes.{byte_at}
use Rattle.base_prelude.specs.Walk.{Step, go, stop, walk}
use Rattle.test_lines.specs.Lines.{Count, count}
use Rattle.test_lines.specs.Fields.{no_number, field_start, field_of}
use Rattle.test_text.specs.Fields.{count_fields}

-- a number below zero, modulo 2^32
unfoldable pub negated_of : ℕ → ℕ
negated_of n = if_lt n no_number ((no_number - n) % no_number) no_number

-- the number in a field; one behind `-` is below zero
unfoldable pub field_value : List ℕ → ℕ → ℕ
field_value l k =
    if_eq (byte_at l (field_start l k)) 45 (negated_of (field_of (drop (field_start l k + 1) l) 0)) (field_of l k)

-- the word in a field; 0 where there is no number
unfoldable pub field_word : List ℕ → ℕ → ℕ
field_word l k = field_value l k % no_number

unfoldable pub values_step : List ℕ → ℕ → ℕ → Step ℕ Bool
values_step l end k = if_lt k end (if_lt (field_value l k) no_number (go (k + 1)) (stop false)) (stop true)

-- whether the fields from one to before another are numbers
unfoldable pub are_values : List ℕ → ℕ → ℕ → Bool
are_values l from end = walk (values_step l end) false (suc (end - from)) from

-- and the last of the line
unfoldable pub has_values : List ℕ → ℕ → ℕ → Bool
has_values l from end = if_eq (count_fields l) end (are_values l from end) false

unfoldable pub digits_step : List ℕ → ℕ → ℕ → Step ℕ Bool
digits_step l from i =
    if_lt i (length l)
    (if_lt (byte_at l i) 48 (stop false) (if_lt 57 (byte_at l i) (stop false) (go (i + 1))))
    (stop (nat_lt from i))

-- whether a line has digits alone from a place on, and one at least
unfoldable pub is_digits : List ℕ → ℕ → Bool
is_digits l from = walk (digits_step l from) false (suc (length l)) from

-- a number of 64 bits with one more digit; what is no digit, and what no longer fits, changes nothing
unfoldable pub long_digit : ℕ → ℕ → ℕ
long_digit n c =
    if_lt c 48 n (if_lt 57 c n (if_lt 1844674407370955161 n n ((n * 10 + (c - 48)) % 18446744073709551616)))

unfoldable pub long_step : List ℕ → Count → Step Count ℕ
long_step l q =
    if_lt q.at (length l) (go (count (long_digit q.seen (byte_at l q.at)) (q.at + 1))) (stop q.seen)

-- the number of 64 bits whose digits stand from a place on
unfoldable pub long_number : List ℕ → ℕ → ℕ
long_number l from = walk (long_step l) 0 (suc (length l)) (count 0 from)

-- the arguments of a start: how many, and the words
abbrev pub Listed : Type 0
Listed = record { count : ℕ; words : List ℕ }

abbrev pub listed : ℕ → List ℕ → Listed
listed count words = record { count = count; words = words }

unfoldable pub argument_step : List ℕ → ℕ → Listed → Step Listed Listed
argument_step l fields q =
    if_lt q.count 16
    (if_lt (q.count + 2) fields
    (if_lt (field_value l (q.count + 2)) no_number
    (go (listed (q.count + 1) (slice_set q.words q.count (field_value l (q.count + 2) % no_number))))
    (stop (listed 17 q.words)))
    (stop (listed q.count q.words)))
    (if_lt 18 fields (stop (listed 17 q.words)) (stop (listed 16 q.words)))

-- the numbers behind the name of a start, at most 16; 17 where they are no numbers or more
unfoldable pub arguments_of : List ℕ → List ℕ → Listed
arguments_of l words = walk (argument_step l (count_fields l)) (listed 17 words) 17 (listed 0 words)
