-- The file of tables: "tag 1 counts, 2 data, empty too, 3 one statement row, 4 one label row with its decoded name, in rising tag order, rows
-- in table order" (02, 7).
-- Assumes nothing.
use Rattle.std.specs.Prelude.{ℕ, zero, suc, List, [], ◌++◌, take}
use Rattle.base_word.specs.Bytes.{word_bytes}
use Rattle.prog_tables.specs.Label.{Tables, label_at}
use Rattle.file_codec.specs.Words.{word_size}
use Rattle.file_codec.specs.Fields.{counts_tag, data_tag, row_tag, label_tag, field_of}
use Rattle.file_codec.specs.Rows.{packed, word_of}
use Rattle.file_codec.specs.Labels.{label_bytes}

-- "counts (statements, labels, data bytes, four bytes each)"
unfoldable pub counts_bytes : ℕ → ℕ → ℕ → List ℕ
counts_bytes c l d = word_bytes word_size c ++ (word_bytes word_size l ++ word_bytes word_size d)

-- the fields of n statement rows of table t, from row i on
unfoldable pub row_fields : List ℕ → ℕ → ℕ → List ℕ
row_fields t zero i = []
row_fields t (suc n) i = field_of row_tag (packed (word_of t i)) ++ row_fields t n (suc i)

-- the fields of n label rows, from row i on
unfoldable pub label_fields : List ℕ → List ℕ → ℕ → ℕ → List ℕ
label_fields l names zero i = []
label_fields l names (suc n) i = field_of label_tag (label_bytes (label_at l names i)) ++ label_fields l names n (suc i)

-- the file of tables t with the data d
unfoldable pub file_of : Tables → List ℕ → List ℕ
file_of t d =
    field_of counts_tag (counts_bytes t.count t.label_count t.data_length)
    ++ (field_of data_tag (take t.data_length d)
    ++ (row_fields t.statements t.count 0
    ++ label_fields t.labels t.names t.label_count 0))
