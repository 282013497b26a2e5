-- The skeleton: the rows of the outline as rows of the statement table, with what nesting alone gives, and the two tokens of each line in
-- words 9 and 10, for later passes.
-- Assumes nothing.
use Rattle.std.specs.Prelude.{ℕ, zero, suc, ◌+◌, ◌-◌, ◌*◌, List, [], ◌∷◌, ◌++◌, take, drop}
use Rattle.base_prelude.specs.Choice.{if_eq}
use Rattle.base_prelude.specs.Lists.{zeros}
use Rattle.lang_kinds.specs.Kinds as kind
use Rattle.parse_units.specs.Outline.{row_at}
use Rattle.parse_units.specs.declared.Row.{Row}
use Rattle.prog_tables.specs.StatementRow as row
use Rattle.prog_tables.specs.Layout.{statement_row, statement_words}
use Rattle.prog_tables.specs.Places.{token_in, next_in}
use Rattle.res_skeleton.specs.declared.SkeletonRow.{SkeletonRow}

-- the parameters of a function are its operands; no other row has any
unfoldable pub parameters_of : ℕ → ℕ → ℕ
parameters_of k operands = if_eq k kind.function operands 0

-- a row of the outline; rows of functions and frames count from 1 there, statements from 0 (0 stays 0)
unfoldable pub bare : Row → SkeletonRow
bare o =
    record {
      kind = o.kind;
      func = o.func - 1;
      scope = o.scope - 1;
      up = o.up;
      b = parameters_of o.kind o.operands;
      token = o.token;
      next = o.next;
    }

-- statement n of the outline x
unfoldable pub statement_of : List ℕ → ℕ → SkeletonRow
statement_of x n = bare (row_at x (n + 1))

-- words 0 to 10 of a row; words 11 to 26 are 0
abbrev pub words_of : SkeletonRow → List ℕ
words_of r = r.kind ∷ r.func ∷ r.scope ∷ r.up ∷ 0 ∷ r.b ∷ 0 ∷ 0 ∷ 0 ∷ r.token ∷ r.next ∷ []

-- row n of a table whose words are 0 there
unfoldable pub put_row : List ℕ → ℕ → SkeletonRow → List ℕ
put_row k n r = take (n * statement_row) k ++ words_of r ++ drop (n * statement_row + row.operands) k

-- statements 0 to c - 1 of the outline x, in the table k
unfoldable pub rows_in : List ℕ → List ℕ → ℕ → List ℕ
rows_in k x zero = k
rows_in k x (suc n) = put_row (rows_in k x n) n (statement_of x n)

-- the skeleton of c statements
unfoldable pub skeleton_of : List ℕ → ℕ → List ℕ
skeleton_of x c = rows_in (zeros statement_words) x c

-- the first token of statement n
unfoldable pub token_of : List ℕ → ℕ → ℕ
token_of k n = token_in k n

-- the token behind its line
unfoldable pub next_of : List ℕ → ℕ → ℕ
next_of k n = next_in k n
