-- A program as its rules see it: the width of a word, the statements and labels as views, their counts. Other tables are other views.
-- Assumes nothing.
use Rattle.std.specs.Prelude.{ℕ, ◌*◌, Bool, false, List, [], ltb, length}
use Rattle.base_limits.specs.Limits.{name_bytes}
use Rattle.base_limits.specs.declared.Width.{Width}
use Rattle.base_limits.specs.declared.Width.TheVariants.{Bits32}
use Rattle.prog_tables.specs.Layout.{statement_row, label_row}
use Rattle.prog_tables.specs.Tests.{one_of}
use Rattle.prog_tables.specs.Statement.{Row, row_at}
use Rattle.prog_tables.specs.Label.{Label, Tables, label_at, rows, labels_of}

pub record Program : Type 0 where
  pub width : Width
  -- statement n
  pub rows : ℕ → Row
  pub count : ℕ
  -- label n
  pub labels : ℕ → Label
  pub label_count : ℕ
  -- bytes of the data
  pub data_length : ℕ
  -- "a label row or count past its table": the count of statements
  pub statements_past : Bool
  -- the count of labels, in their table or in that of their names
  pub labels_past : Bool

-- the program that tables hold
abbrev pub program_from : Width → Tables → Program
program_from w t =
    record {
      width = w;
      rows = rows t;
      count = t.count;
      labels = labels_of t;
      label_count = t.label_count;
      data_length = t.data_length;
      statements_past = ltb (length t.statements) (t.count * statement_row);
      labels_past =
          one_of (ltb (length t.labels) (t.label_count * label_row)) (ltb (length t.names) (t.label_count * name_bytes));
    }

-- that of lent tables, names and counts aside: statement words and rows, label words and rows, the data's length
abbrev pub lent_program : List ℕ → ℕ → List ℕ → ℕ → ℕ → Program
lent_program t c l k d =
    record {
      width = Bits32;
      rows = row_at t;
      count = c;
      labels = label_at l [];
      label_count = k;
      data_length = d;
      statements_past = false;
      labels_past = false;
    }

-- the statements alone
abbrev pub rows_alone : List ℕ → ℕ → Program
rows_alone t c = lent_program t c [] 0 0
