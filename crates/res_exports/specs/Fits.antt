-- What the code asks of its tables.
-- Assumes nothing.
use Rattle.std.specs.Prelude.{◌≡◌, List, ℕ, ◌+◌, ◌≤◌, length}
use Rattle.base_limits.specs.Limits as limits

pub record UnitFits (t : List ℕ) (at : ℕ) : Type 0 where
  pub tokens : length t ≡ limits.token_words
  pub near : at ≤ limits.tokens + 1
