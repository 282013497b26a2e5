-- The outline: a row of eight words for each statement, written once, in order. Row 0 is the edge, all zeros; statement n is row n + 1.
-- Assumes nothing.
use Rattle.std.specs.Prelude.{ℕ, ◌+◌, ◌*◌, List, [], ◌∷◌, ◌++◌, take, drop}
use Rattle.base_prelude.specs.Choice.{if_eq, if_true}
use Rattle.base_limits.specs.Limits as limits
use Rattle.lang_kinds.specs.Kinds as kind
use Rattle.lang_kinds.specs.Nesting.{enters, leaves, is_frame}
use Rattle.parse_lines.specs.Tokens.{token_word}
use Rattle.parse_units.specs.OutlineRow as row
use Rattle.parse_units.specs.declared.Row.{Row}

-- words of a row, and of the outline: the edge, and a row for each statement
abbrev pub outline_row : ℕ
outline_row = 8

abbrev pub outline_words : ℕ
outline_words = (limits.statements + 1) * outline_row

-- kind; rows of its function, its innermost frame, and what is open around it; its first token and the one behind its line; the
-- locals in scope before it; its operand tokens
unfoldable pub row_at : List ℕ → ℕ → Row
row_at t n =
    record {
      kind = token_word t n row.kind;
      func = token_word t n row.func;
      scope = token_word t n row.scope;
      up = token_word t n row.up;
      token = token_word t n row.token;
      next = token_word t n row.next;
      before = token_word t n row.before;
      operands = token_word t n row.operands;
    }

abbrev pub words_of : Row → List ℕ
words_of r = r.kind ∷ r.func ∷ r.scope ∷ r.up ∷ r.token ∷ r.next ∷ r.before ∷ r.operands ∷ []

unfoldable pub put_row : List ℕ → ℕ → Row → List ℕ
put_row t n r = take (n * outline_row) t ++ words_of r ++ drop (n * outline_row + outline_row) t

-- the row that a kind makes as row n, where the row `top`, which is o, is open: a function is its own; else the function and the
-- innermost frame are those of what is open; a row that closes or changes an arm holds what stands around it
unfoldable pub row_in : ℕ → ℕ → ℕ → Row → ℕ → ℕ → ℕ → ℕ → Row
row_in k n top o token next before operands =
    record {
      kind = k;
      func = if_eq k kind.function n o.func;
      scope = if_eq k kind.function n (if_true (is_frame o.kind) top o.scope);
      up = if_true (leaves k) o.up top;
      token = token;
      next = next;
      before = before;
      operands = operands;
    }

-- what is open behind row n
unfoldable pub behind : ℕ → Row → ℕ
behind n r = if_true (enters r.kind) n r.up
