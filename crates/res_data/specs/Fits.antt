-- What the code asks of a cursor.
-- Assumes nothing.
use Rattle.std.specs.Prelude.{◌≡◌, List, ℕ, ◌+◌, ◌≤◌, length}
use Rattle.base_limits.specs.Limits as limits
use Rattle.res_data.specs.declared.Cursor.{Cursor}

pub record CursorFits (t : List ℕ) (s : Cursor) : Type 0 where
  pub tokens : length t ≡ limits.token_words
  pub near : s.at ≤ limits.tokens + 1
