-- A word's signed value, and the word of an integer, at every width.
-- Assumes nothing.
use Rattle.std.specs.Prelude.{ℕ, suc, ◌-◌, ◌^◌, ℤ, pos, negsuc}
use Rattle.base_prelude.specs.Choice.{pick}
use Rattle.base_word.specs.Word.{negative}

-- the signed value of a word
abbrev pub value : ℕ → ℕ → ℤ
value w a = pick (negative w a) (negsuc (2 ^ w - suc a)) (pos a)

-- the word of an integer between -2 ^ w and 2 ^ w
abbrev pub word_of : ℕ → ℤ → ℕ
word_of w (pos n) = n
word_of w (negsuc n) = 2 ^ w - suc n
