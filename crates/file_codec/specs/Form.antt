-- The form of a file: 40 is "a field cut short, missing, surplus, unknown, out of order or of wrong length" (02, 7).
-- Assumes nothing.
use Rattle.std.specs.Prelude.{ℕ, zero, suc, Bool, List, eqb, length}
use Rattle.base_prelude.specs.Choice.{if_true}
use Rattle.prog_tables.specs.Tests.{both}
use Rattle.file_codec.specs.Words.{word_in}
use Rattle.file_codec.specs.Fields.{counts_tag, data_tag, row_tag, label_tag, tag_at, behind_at, is_whole, body_at}
use Rattle.file_codec.specs.Rows.{row_fits}
use Rattle.file_codec.specs.Labels.{label_fits}

-- the field at a place of the file b has this tag, is whole, and its bytes fit
unfoldable pub field_good : ℕ → (List ℕ → Bool) → List ℕ → ℕ → Bool
field_good tag fits b at = both (eqb (tag_at b at) tag) (both (is_whole b at) (fits (body_at b at)))

-- the place behind n such fields, from a place on; where one is not good, a place past the file's end, where no field stands
unfoldable pub behind_fields : ℕ → (List ℕ → Bool) → List ℕ → ℕ → ℕ → ℕ
behind_fields tag fits b zero at = at
behind_fields tag fits b (suc n) at = if_true (field_good tag fits b at) (behind_fields tag fits b n (behind_at b at)) (suc (length b))

-- bytes of the counts
abbrev pub counts_size : ℕ
counts_size = 12

-- statements, labels and data bytes, as the counts have them
unfoldable pub statements_in : List ℕ → ℕ
statements_in b = word_in (body_at b 0) 0

unfoldable pub labels_in : List ℕ → ℕ
labels_in b = word_in (body_at b 0) 4

unfoldable pub data_in : List ℕ → ℕ
data_in b = word_in (body_at b 0) 8

-- x has n bytes
unfoldable pub is_long : ℕ → List ℕ → Bool
is_long n x = eqb (length x) n

-- ---- "in rising tag order": the counts once, the data once, a field for each statement, a field for each label

unfoldable pub counts_end : List ℕ → ℕ
counts_end b = behind_fields counts_tag (is_long counts_size) b 1 0

unfoldable pub data_end : List ℕ → ℕ
data_end b = behind_fields data_tag (is_long (data_in b)) b 1 (counts_end b)

unfoldable pub rows_end : List ℕ → ℕ
rows_end b = behind_fields row_tag row_fits b (statements_in b) (data_end b)

unfoldable pub labels_end : List ℕ → ℕ
labels_end b = behind_fields label_tag label_fits b (labels_in b) (rows_end b)

-- and nothing behind them
unfoldable pub formed : List ℕ → Bool
formed b = eqb (labels_end b) (length b)
