-- "Outside comments and other escapes, backslash then byte 10, with following blanks, adds no byte and separates nothing."
-- Assumes nothing.
use Rattle.std.specs.Prelude.{ℕ, suc, ◌+◌, Bool, true, false, List, length}
use Rattle.base_prelude.specs.Choice.{if_eq, if_true}
use Rattle.base_prelude.specs.Bytes.{byte_at}
use Rattle.base_prelude.specs.Walk.{Step, go, stop, walk}
use Rattle.lex_spelling.specs.Classes.{is_blank}

unfoldable pub blank_step : List ℕ → ℕ → Step ℕ ℕ
blank_step s i = if_true (is_blank (byte_at s i)) (go (i + 1)) (stop i)

-- the place after the blanks from a place on
unfoldable pub blanks_end : List ℕ → ℕ → ℕ
blanks_end s at = walk (blank_step s) at (suc (length s)) at

-- a backslash directly before byte 10
unfoldable pub is_joint : List ℕ → ℕ → Bool
is_joint s i = if_eq (byte_at s i) 92 (if_eq (byte_at s (i + 1)) 10 true false) false

unfoldable pub join_step : List ℕ → ℕ → Step ℕ ℕ
join_step s i = if_true (is_joint s i) (go (blanks_end s (i + 2))) (stop i)

-- the place after the continuations at a place: the text reads as if they were not there
unfoldable pub joined : List ℕ → ℕ → ℕ
joined s at = walk (join_step s) at (suc (length s)) at
