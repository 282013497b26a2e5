-- What the code asks of a state.
-- Assumes nothing.
use Rattle.std.specs.Prelude.{◌≡◌, List, ℕ, ◌+◌, ◌*◌, ◌≤◌, ◌<◌, length}
use Rattle.base_limits.specs.Limits as limits
use Rattle.prog_tables.specs.Layout.{label_words}
use Rattle.parse_outline.specs.declared.Marks.{Marks}

pub record MarksFit (t x : List ℕ) (s : Marks) : Type 0 where
  pub tokens : length t ≡ limits.token_words
  pub long : length x ≡ label_words
  pub near : s.at ≤ limits.tokens + 1
  pub few : s.labels ≤ s.at
  pub rows : s.row ≤ 1 + 2 * s.at
