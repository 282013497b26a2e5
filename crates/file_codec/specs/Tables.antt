-- The tables that a file of right form holds.
-- Assumes nothing.
use Rattle.std.specs.Prelude.{ℕ, zero, suc, List, [], ◌++◌}
use Rattle.prog_tables.specs.Label.{Tables}
use Rattle.file_codec.specs.Fields.{behind_at, body_at}
use Rattle.file_codec.specs.Rows.{unpacked}
use Rattle.file_codec.specs.Labels.{label_words_in, name_slot}
use Rattle.file_codec.specs.Form.{statements_in, labels_in, data_in, counts_end, data_end, rows_end}

-- what `make` gives of the bytes of n fields, one behind the other, from a place on
unfoldable pub each_field : (List ℕ → List ℕ) → List ℕ → ℕ → ℕ → List ℕ
each_field make b zero at = []
each_field make b (suc n) at = make (body_at b at) ++ each_field make b n (behind_at b at)

unfoldable pub statement_words_in : List ℕ → List ℕ
statement_words_in b = each_field unpacked b (statements_in b) (data_end b)

unfoldable pub label_table_in : List ℕ → List ℕ
label_table_in b = each_field label_words_in b (labels_in b) (rows_end b)

unfoldable pub name_table_in : List ℕ → List ℕ
name_table_in b = each_field name_slot b (labels_in b) (rows_end b)

unfoldable pub data_bytes_in : List ℕ → List ℕ
data_bytes_in b = body_at b (counts_end b)

unfoldable pub tables_in : List ℕ → Tables
tables_in b =
    record {
      statements = statement_words_in b;
      count = statements_in b;
      labels = label_table_in b;
      label_count = labels_in b;
      names = name_table_in b;
      data_length = data_in b;
    }
