-- The word that nesting and frames give each row, over a view f of c rows.
-- Assumes nothing.
use Rattle.std.specs.Prelude.{ℕ, zero, suc, ◌%◌, List, set}
use Rattle.base_prelude.specs.Choice.{if_eq, if_true}
use Rattle.base_prelude.specs.Lists.{zeros}
use Rattle.base_limits.specs.Limits as limits
use Rattle.lang_kinds.specs.Kinds as kind
use Rattle.prog_tables.specs.Statement.{Row}
use Rattle.prog_tables.specs.Nesting.{has_target, target_of}
use Rattle.prog_tables.specs.Frames.{frame_size, block_word, let_word}

-- of a function its frame size; of a block and its `end block` the word of the saved auto top; of a let its word; of a test, an
-- `else` or an else-if jump its target
unfoldable pub frame_value : (ℕ → Row) → ℕ → ℕ → ℕ
frame_value f c n =
    if_eq (f n).kind kind.function (frame_size f c n)
    (if_eq (f n).kind kind.block (block_word f c n)
    (if_eq (f n).kind kind.end_block (block_word f c (f n).scope)
    (if_eq (f n).kind kind.let_local (let_word f c n)
    (if_true (has_target (f n).kind) (target_of f c n) 0))))

-- table words have 32 bits
unfoldable pub word_of : (ℕ → Row) → ℕ → ℕ → ℕ
word_of f c n = frame_value f c n % limits.word_values

-- the words of rows 0 to n - 1, in the table w
unfoldable pub words_in : List ℕ → (ℕ → Row) → ℕ → ℕ → List ℕ
words_in w f c zero = w
words_in w f c (suc n) = set (words_in w f c n) n (word_of f c n)

-- a word for each of the rows, 0 behind them
unfoldable pub words_of : (ℕ → Row) → ℕ → List ℕ
words_of f c = words_in (zeros limits.statements) f c c
