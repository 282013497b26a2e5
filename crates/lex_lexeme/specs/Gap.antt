-- What stands between tokens: blanks, continuations and comments.
-- Assumes nothing.
use Rattle.std.specs.Prelude.{ℕ, suc, ◌+◌, List, length}
use Rattle.base_prelude.specs.Choice.{if_lt, if_eq, if_true}
use Rattle.base_prelude.specs.Bytes.{byte_at}
use Rattle.base_prelude.specs.Walk.{Step, go, stop, walk}
use Rattle.lex_spelling.specs.Classes.{is_blank}
use Rattle.lex_spelling.specs.Continuation.{is_joint}

unfoldable pub comment_step : List ℕ → ℕ → Step ℕ ℕ
comment_step s i = if_eq (byte_at s i) 10 (stop i) (if_lt (byte_at s i) 256 (go (i + 1)) (stop i))

-- "A comment runs from `#` to before byte 10.": whatever it holds, a backslash at its end too
unfoldable pub comment_end : List ℕ → ℕ → ℕ
comment_end s at = walk (comment_step s) at (suc (length s)) at

-- the place behind a blank, a comment or a continuation; the place itself where none starts
unfoldable pub gap_skip : List ℕ → ℕ → ℕ
gap_skip s i =
    if_true (is_blank (byte_at s i)) (i + 1)
    (if_eq (byte_at s i) 35 (comment_end s (i + 1))
    (if_true (is_joint s i) (i + 2)
    i))

unfoldable pub gap_step : List ℕ → ℕ → Step ℕ ℕ
gap_step s i = if_lt i (gap_skip s i) (go (gap_skip s i)) (stop i)

-- the place where the next token may start
unfoldable pub gap_end : List ℕ → ℕ → ℕ
gap_end s at = walk (gap_step s) at (suc (length s)) at
