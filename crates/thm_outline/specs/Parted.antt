-- What the parts of a statement row are: as many operands as the tables ask, each a token that can be one.
-- Assumes nothing.
use Rattle.std.specs.Prelude.{◌≡◌, true, false, List, ℕ, ◌-◌, ◌≤◌, ◌<◌}
use Rattle.base_limits.specs.Limits as limits
use Rattle.lang_kinds.specs.Tokens as token
use Rattle.parse_lines.specs.Tokens.{kind_at}
use Rattle.prog_tables.specs.Layout.{no_expression}
use Rattle.prog_tables.specs.Tests.{one_of}
use Rattle.prog_tables.specs.Statement.{has_expression, is_call_row, is_call, used_by}
use Rattle.prog_tables.specs.Faults.{expression_fault}
use Rattle.prog_tables.specs.WellFormed.{has_operands}
use Rattle.res_scope.specs.Parts.{no_callee}
use Rattle.res_scope.specs.declared.Parts.{Parts}

-- p are the parts of a row of a kind from token i to before token e
pub record Parted (t : List ℕ) (kind i e : ℕ) (p : Parts) : Type 0 where
  pub behind : i < p.first
  pub within : p.first ≤ e
  -- the count is the one the tables ask, and within the limit
  pub shaped : has_operands kind ≡ true → used_by kind p.expr (e - p.first) ≡ e - p.first
  pub idle : has_operands kind ≡ false → p.first ≡ e
  pub few : e - p.first ≤ limits.parameters
  -- the kind of its expression; no other row has one
  pub listed : expression_fault kind p.expr ≡ false
  pub plain : one_of (has_expression kind) (is_call_row kind) ≡ false → p.expr ≡ no_expression
  -- a symbol, a substitute, an integer, or `@` and one of these
  pub operands : (j : ℕ) → p.first ≤ j → j < e → (token.symbol ≤ kind_at t j) × (kind_at t j < token.string)
  -- a row that calls names a function, no other row does
  pub called : is_call kind p.expr ≡ true → (i < p.callee) × (p.callee < e) × (kind_at t p.callee ≡ token.symbol)
  pub uncalled : is_call kind p.expr ≡ false → p.callee ≡ no_callee
