-- Fields of a line, parted by blanks (byte 32), and the numbers in them.
-- Assumes nothing.
use Rattle.std.specs.Prelude.{ℕ, suc, ◌+◌, ◌-◌, ◌*◌, Bool, true, false, List, length}
use Rattle.base_limits.specs.Limits.{word_values}
use Rattle.base_prelude.specs.Choice.{if_lt, if_eq}
use Rattle.base_prelude.specs.Bytes.{byte_at}
use Rattle.base_prelude.specs.Walk.{Step, go, stop, walk}
use Rattle.test_lines.specs.Lines.{one_more, Count, count}

-- above every number
abbrev pub no_number : ℕ
no_number = word_values

unfoldable pub field_step : List ℕ → ℕ → Count → Step Count ℕ
field_step l k q =
    if_lt q.at (length l)
    (if_eq q.seen k (stop q.at)
    (if_eq (byte_at l q.at) 32 (go (count (one_more q.seen) (q.at + 1))) (go (count q.seen (q.at + 1)))))
    (stop q.at)

-- the start of the field behind k blanks, or the end
unfoldable pub field_start : List ℕ → ℕ → ℕ
field_start l k = walk (field_step l k) (length l) (suc (length l)) (count 0 0)

-- a number with one more digit
unfoldable pub with_digit : ℕ → ℕ → ℕ
with_digit n c = if_lt c 48 no_number (if_lt 57 c no_number (if_lt n no_number (n * 10 + (c - 48)) no_number))

-- a number so far, and a place
abbrev pub Reading : Type 0
Reading = record { number : ℕ; at : ℕ }

abbrev pub reading : ℕ → ℕ → Reading
reading number at = record { number = number; at = at }

unfoldable pub digit_step : List ℕ → Reading → Step Reading ℕ
digit_step l q =
    if_lt q.at (length l)
    (if_eq (byte_at l q.at) 32 (stop q.number) (go (reading (with_digit q.number (byte_at l q.at)) (q.at + 1))))
    (stop q.number)

-- the number from a place on, behind the digits of n
unfoldable pub number_from : List ℕ → ℕ → ℕ → ℕ
number_from l at n = walk (digit_step l) n (suc (length l)) (reading n at)

unfoldable pub number_at : List ℕ → ℕ → ℕ
number_at l at = if_lt 57 (byte_at l at) no_number (number_from l (at + 1) (with_digit 0 (byte_at l at)))

-- the number in a field
unfoldable pub field_of : List ℕ → ℕ → ℕ
field_of l k = number_at l (field_start l k)

unfoldable pub numbers_step : List ℕ → ℕ → ℕ → Step ℕ Bool
numbers_step l end k =
    if_lt k end
    (if_lt (field_of l k) no_number (go (k + 1)) (stop false))
    (if_lt (field_start l end) (length l) (stop false) (stop true))

-- whether the fields from one to before another are numbers, and the last of the line
unfoldable pub has_numbers : List ℕ → ℕ → ℕ → Bool
has_numbers l from end = walk (numbers_step l end) false (suc (end - from)) from
