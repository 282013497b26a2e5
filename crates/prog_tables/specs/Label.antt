-- A label row of 4 words and 64 bytes of name beside it; and the tables of a program.
-- Assumes nothing.
use Rattle.std.specs.Prelude.{ℕ, ◌+◌, ◌*◌, Bool, true, List, eqb, get_or, take, drop}
use Rattle.base_prelude.specs.Choice.{if_eq}
use Rattle.base_limits.specs.Limits.{name_bytes}
use Rattle.prog_tables.specs.LabelRow as label
use Rattle.prog_tables.specs.Layout.{label_row, data_label, exported_data, function_label, exported_function}
use Rattle.prog_tables.specs.Statement.{Row, row_at}

pub record Label : Type 0 where
  pub kind : ℕ
  -- the address of data, the number of an imported name, else the statement
  pub number : ℕ
  -- of an imported function
  pub arguments : ℕ
  -- bytes of the name
  pub size : ℕ
  pub name : List ℕ

-- row n of the label table and the name table
unfoldable pub label_at : List ℕ → List ℕ → ℕ → Label
label_at t names n =
    record {
      kind = get_or t (n * label_row) 0;
      number = get_or t (n * label_row + label.number) 0;
      arguments = get_or t (n * label_row + label.arguments) 0;
      size = get_or t (n * label_row + label.size) 0;
      name = take (get_or t (n * label_row + label.size) 0) (drop (n * name_bytes) names);
    }

-- data, exported or not
unfoldable pub is_data : ℕ → Bool
is_data k = if_eq k data_label true (eqb k exported_data)

-- a function, exported or not
unfoldable pub is_function_label : ℕ → Bool
is_function_label k = if_eq k function_label true (eqb k exported_function)

-- the tables of a program, and the bytes of its data
pub record Tables : Type 0 where
  pub statements : List ℕ
  pub count : ℕ
  pub labels : List ℕ
  pub label_count : ℕ
  pub names : List ℕ
  pub data_length : ℕ

abbrev pub rows : Tables → ℕ → Row
rows t = row_at t.statements

abbrev pub labels_of : Tables → ℕ → Label
labels_of t = label_at t.labels t.names
