-- The words of a row of the outline. docs/TABLES.md says each.
-- Assumes nothing.
use Rattle.std.specs.Prelude.{ℕ}
use Rattle.parse_units.specs.declared.OutlineRows.{OutlineRows}

abbrev pub kind : ℕ
kind = 0

abbrev pub func : ℕ
func = 1

abbrev pub scope : ℕ
scope = 2

abbrev pub up : ℕ
up = 3

abbrev pub token : ℕ
token = 4

abbrev pub next : ℕ
next = 5

abbrev pub before : ℕ
before = 6

abbrev pub operands : ℕ
operands = 7

-- all of them, as `all_outline_words` gives them
unfoldable pub outline_row_of : OutlineRows
outline_row_of =
    record {
      kind = kind;
      func = func;
      scope = scope;
      up = up;
      token = token;
      next = next;
      before = before;
      operands = operands;
    }
