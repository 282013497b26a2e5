-- Reads of skeleton rows and of the outline's label rows.
-- Assumes nothing.
use Rattle.std.specs.Prelude.{ℕ, ◌+◌, ◌*◌, ◌-◌, min, List, get_or}
use Rattle.base_limits.specs.Limits as limits
use Rattle.prog_tables.specs.OutlineLabel as outline
use Rattle.prog_tables.specs.Layout.{label_row}
use Rattle.prog_tables.specs.Places.{token_in, next_in}
use Rattle.prog_tables.specs.Hosts.{mark_arguments}

-- the magic word's token of statement n, and the token behind its line; no token has a number past their limit
unfoldable pub first_token : List ℕ → ℕ → ℕ
first_token k n = min (token_in k n) (limits.tokens + 1)

unfoldable pub end_token : List ℕ → ℕ → ℕ
end_token k n = min (next_in k n) (limits.tokens + 1)

-- label j: its token, its kind (1 data, 3 function, 5 place, 6 import), and what it names
unfoldable pub label_token : List ℕ → ℕ → ℕ
label_token y j = get_or y (j * label_row) 0

unfoldable pub label_kind : List ℕ → ℕ → ℕ
label_kind y j = get_or y (j * label_row + outline.kind) 0

-- of a function or a place its statement
unfoldable pub label_statement : List ℕ → ℕ → ℕ
label_statement y j = get_or y (j * label_row + outline.names) 0 - 1

-- of an imported name its argument count
unfoldable pub label_arguments : List ℕ → ℕ → ℕ
label_arguments y j = mark_arguments (get_or y (j * label_row + outline.names) 0)
