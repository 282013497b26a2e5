-- Lines of a case file, and where a word stands.
-- Assumes nothing.
use Rattle.std.specs.Prelude.{ℕ, suc, ◌+◌, ◌%◌, Bool, true, false, List, length, drop}
use Rattle.base_prelude.specs.Choice.{if_lt, if_eq, if_true}
use Rattle.base_prelude.specs.Bytes.{byte_at}
use Rattle.base_prelude.specs.Walk.{Step, go, stop, walk}
use Rattle.base_limits.specs.declared.Width.{Width}
use Rattle.base_limits.specs.declared.Width.TheVariants.{Bits32, Bits16}

-- one more, in 64 bits
unfoldable pub one_more : ℕ → ℕ
one_more n = (n + 1) % 18446744073709551616

unfoldable pub width_of : ℕ → Width
width_of bits = if_eq bits 16 Bits16 Bits32

-- an empty line, or one that starts with `;`
unfoldable pub is_comment : List ℕ → Bool
is_comment l = if_eq (length l) 0 true (if_eq (byte_at l 0) 59 true false)

unfoldable pub byte_step : ℕ → List ℕ → ℕ → Step ℕ ℕ
byte_step b s i = if_lt i (length s) (if_eq (byte_at s i) b (stop i) (go (i + 1))) (stop i)

-- the place of a byte from a place on, or the end
unfoldable pub byte_place : ℕ → List ℕ → ℕ → ℕ
byte_place b s at = walk (byte_step b s) at (suc (length s)) at

-- the place of the byte 10 from a place on, or the end
unfoldable pub line_end : List ℕ → ℕ → ℕ
line_end s at = byte_place 10 s at

unfoldable pub prefix_step : List ℕ → List ℕ → ℕ → Step ℕ Bool
prefix_step l word i =
    if_lt i (length word) (if_eq (byte_at l i) (byte_at word i) (go (i + 1)) (stop false)) (stop true)

-- whether each byte of a word stands at its place in a line
unfoldable pub starts_with : List ℕ → List ℕ → Bool
starts_with l word = walk (prefix_step l word) false (suc (length word)) 0

-- how often a thing was seen before a place
abbrev pub Count : Type 0
Count = record { seen : ℕ; at : ℕ }

abbrev pub count : ℕ → ℕ → Count
count seen at = record { seen = seen; at = at }

unfoldable pub place_step : List ℕ → List ℕ → ℕ → Count → Step Count ℕ
place_step text word k q =
    if_lt q.at (length text)
    (if_true (starts_with (drop q.at text) word)
    (if_eq (one_more q.seen) k (stop q.at) (go (count (one_more q.seen) (q.at + 1))))
    (go (count q.seen (q.at + 1))))
    (stop q.at)

-- the place where a word stands for the k-th time, or the length
unfoldable pub place_of : List ℕ → List ℕ → ℕ → ℕ
place_of text word k = walk (place_step text word k) (length text) (suc (length text)) (count 0 0)
