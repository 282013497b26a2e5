-- What the code asks of the buffers of an accepted source: room for its rows.
-- Assumes nothing.
use Rattle.std.specs.Prelude.{ℕ, ◌*◌, ◌≤◌}
use Rattle.base_limits.specs.Limits as limits
use Rattle.base_limits.specs.Limits.{name_bytes, token_row}
use Rattle.prog_tables.specs.Layout.{statement_row, label_row}

pub record Room (tokens statements labels names n c l : ℕ) : Type 0 where
  pub few-tokens : n ≤ limits.tokens
  pub few-statements : c ≤ limits.statements
  pub for-tokens : n * token_row ≤ tokens
  pub for-statements : c * statement_row ≤ statements
  pub for-labels : l * label_row ≤ labels
  pub for-names : l * name_bytes ≤ names
