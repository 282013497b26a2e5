-- The fields of a line: how many it has, the word that one starts with, where a word ends, and its bytes.
-- Assumes nothing.
use Rattle.std.specs.Prelude.{ℕ, suc, ◌+◌, ◌-◌, Bool, List, length, take, drop}
use Rattle.base_prelude.specs.Choice.{if_lt, if_eq}
use Rattle.base_prelude.specs.Bytes.{byte_at}
use Rattle.base_prelude.specs.Walk.{Step, go, stop, walk}
use Rattle.test_lines.specs.Lines.{one_more, byte_place, starts_with, Count, count}
use Rattle.test_lines.specs.Fields.{field_start}

unfoldable pub count_step : List ℕ → Count → Step Count ℕ
count_step l q =
    if_lt q.at (length l)
    (if_eq (byte_at l q.at) 32 (go (count (one_more q.seen) (q.at + 1))) (go (count q.seen (q.at + 1))))
    (stop q.seen)

-- one more than the blanks of a line
unfoldable pub count_fields : List ℕ → ℕ
count_fields l = walk (count_step l) 1 (suc (length l)) (count 1 0)

-- whether the field behind k blanks starts with a word
unfoldable pub has_word : List ℕ → ℕ → List ℕ → Bool
has_word l k word = starts_with (drop (field_start l k) l) word

-- the place of the blank from a place on, or the end
unfoldable pub word_end : List ℕ → ℕ → ℕ
word_end l at = byte_place 32 l at

-- the bytes of the word from a place on
unfoldable pub raw_at : List ℕ → ℕ → List ℕ
raw_at l at = take (word_end l at - at) (drop at l)
