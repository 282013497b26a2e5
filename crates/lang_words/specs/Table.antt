-- The table as the code holds it: the letters of all words one after the other, and a row for each word.
-- Assumes nothing.
use Rattle.std.specs.Prelude.{ℕ, ◌+◌, List, [], ◌∷◌, ◌++◌, length, get_or, take, drop}
use Rattle.lang_words.specs.Words.{Entry, nothing, words}
use Rattle.lang_words.specs.declared.Row.{Row}

-- the letters of all words
unfoldable pub all_letters : List Entry → List ℕ
all_letters [] = []
all_letters (e ∷ es) = e.letters ++ all_letters es

-- the place of the first letter, the length, the number, the least and the most operand tokens
abbrev pub row : ℕ → ℕ → ℕ → ℕ → ℕ → Row
row start size number least most = record { 0 = start; 1 = size; 2 = number; 3 = least; 4 = most }

-- the rows of some words whose letters stand from a place on
unfoldable pub rows_from : ℕ → List Entry → List Row
rows_from at [] = []
rows_from at (e ∷ es) = row at (length e.letters) e.number e.least e.most ∷ rows_from (at + length e.letters) es

unfoldable pub rows : List Row
rows = rows_from 0 words

-- the word at a place of the table
unfoldable pub entry_at : ℕ → Entry
entry_at k = get_or words k nothing

unfoldable pub row_at : ℕ → Row
row_at k = get_or rows k (row 0 0 0 0 0)

-- a letter of the letters of all words
unfoldable pub letter_at : ℕ → ℕ
letter_at i = get_or (all_letters words) i 0

-- so many letters of all words, from a place on
unfoldable pub spelled : ℕ → ℕ → List ℕ
spelled start size = take size (drop start (all_letters words))
