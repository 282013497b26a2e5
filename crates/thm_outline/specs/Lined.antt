-- What a statement row is in the source: a line in right shape, or one half of an `else if..` line.
-- Assumes nothing.
use Rattle.std.specs.Prelude.{◌≡◌, ℕ, ◌+◌, ◌≤◌, List}
use Rattle.base_prelude.specs.Fault.{none}
use Rattle.base_limits.specs.Limits as limits
use Rattle.base_limits.specs.declared.Width.{Width}
use Rattle.lang_kinds.specs.Kinds as kind
use Rattle.lang_kinds.specs.Nesting.{rows_of, kind_of_word}
use Rattle.parse_lines.specs.Tokens.{word_at}
use Rattle.parse_lines.specs.Units.{unit_at}
use Rattle.parse_lines.specs.Lines.{line_kind}
use Rattle.parse_lines.specs.declared.Span.{Span}
use Rattle.parse_shapes.specs.Shapes.{operand_count}
use Rattle.parse_rules.specs.Rules.{shape_rule, tokens_rule, list_rule}

-- u is a unit of the source whose line has kind k, and the rules that need no state find no fault in it
pub record Line (w : Width) (t : List ℕ) (n : ℕ) (u : Span) (k : ℕ) : Type 0 where
  pub at : ℕ
  pub unit : u ≡ unit_at t at
  pub kind : k ≡ line_kind t u.word
  pub near : u.next ≤ limits.tokens + 1
  pub shape : none ≤ shape_rule w t n u k
  pub tokens : none ≤ tokens_rule t n u k
  pub list : none ≤ list_rule t n u k

-- a row of a kind from token i to before token e, with so many operand tokens, is made of the unit u whose line has kind k: the
-- whole line, or of an `else if..` line the jump or the test
pub data MadeOf (t : List ℕ) (u : Span) (k : ℕ) (sort i e operands : ℕ) : Type 0 where
  whole : rows_of k ≡ 1 → sort ≡ k → i ≡ u.word → e ≡ u.next → operands ≡ operand_count u → MadeOf t u k sort i e operands
  jump : k ≡ kind.else_if → sort ≡ kind.else_if → i ≡ u.word → e ≡ u.word + 1 → operands ≡ 0 → MadeOf t u k sort i e operands
  test : k ≡ kind.else_if → sort ≡ kind_of_word (word_at t (u.word + 1)) → i ≡ u.word + 1 → e ≡ u.next → operands ≡ 2 → MadeOf t u k sort i e operands

-- such a row has its line
pub record Lined (w : Width) (t : List ℕ) (n : ℕ) (kind i e operands : ℕ) : Type 0 where
  pub span : Span
  pub is : ℕ
  pub line : Line w t n span is
  pub made : MadeOf t span is kind i e operands
