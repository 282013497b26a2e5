-- Where the words of a row stand in its table. Outside this crate rows are read by these names and by `row_at`.
-- Assumes nothing.
use Rattle.std.specs.Prelude.{ℕ, ◌+◌, ◌*◌, List, get_or}
use Rattle.prog_tables.specs.StatementRow as row
use Rattle.prog_tables.specs.Layout.{statement_row}
use Rattle.prog_tables.specs.Statement.{operand_at}
use Rattle.prog_tables.specs.declared.Operand.{Operand}

-- the first word of row n
abbrev pub place_of : ℕ → ℕ
place_of n = n * statement_row

-- ---- words of the row whose first word is at a place

abbrev pub kind_from : List ℕ → ℕ → ℕ
kind_from t at = get_or t at 0

abbrev pub func_from : List ℕ → ℕ → ℕ
func_from t at = get_or t (at + row.func) 0

abbrev pub aFrom : List ℕ → ℕ → ℕ
aFrom t at = get_or t (at + row.a) 0

abbrev pub bFrom : List ℕ → ℕ → ℕ
bFrom t at = get_or t (at + row.b) 0

abbrev pub expr_from : List ℕ → ℕ → ℕ
expr_from t at = get_or t (at + row.expr) 0

-- the kind of its address operand
abbrev pub address_kind : List ℕ → ℕ → ℕ
address_kind t at = get_or t (at + row.address) 0

-- ---- the two words of an operand

abbrev pub address_place : ℕ → ℕ
address_place at = at + row.address

abbrev pub first_place : ℕ → ℕ
first_place at = at + row.operands

abbrev pub second_place : ℕ → ℕ
second_place at = at + row.second

abbrev pub third_place : ℕ → ℕ
third_place at = at + row.third

-- those of operand i
abbrev pub slot_place : ℕ → ℕ → ℕ
slot_place at i = at + row.operands + i * 2

-- operand i of row n
abbrev pub slot_at : List ℕ → ℕ → ℕ → Operand
slot_at t n i = operand_at t (slot_place (place_of n) i)

-- ---- words of a skeleton row: the first token of statement n, and the token behind its line

abbrev pub token_in : List ℕ → ℕ → ℕ
token_in k n = get_or k (place_of n + row.token) 0

abbrev pub next_in : List ℕ → ℕ → ℕ
next_in k n = get_or k (place_of n + row.next) 0
