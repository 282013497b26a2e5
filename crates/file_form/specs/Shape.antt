-- The form of a file as the code finds it: one walk over fields for every tag, and where the parts of a file of right form stand.
-- Assumes nothing.
use Rattle.std.specs.Prelude.{ℕ, suc, Bool, true, List, leb, Option, Some, None}
use Rattle.base_prelude.specs.Choice.{if_eq, if_true}
use Rattle.file_codec.specs.Fields.{row_tag, label_tag}
use Rattle.file_codec.specs.Rows.{row_fits}
use Rattle.file_codec.specs.Labels.{label_fits}
use Rattle.file_codec.specs.Form.{statements_in, labels_in, data_in, data_end, rows_end, is_long, formed}
use Rattle.file_form.specs.declared.Form.{Form}

-- how the bytes of a field with a tag fit: those of counts and data have a length
unfoldable pub fits_of : ℕ → ℕ → List ℕ → Bool
fits_of tag long x = if_eq tag row_tag (row_fits x) (if_eq tag label_tag (label_fits x) (is_long long x))

-- the place behind fields; past the end of a file of n bytes where one is not good
unfoldable pub place_of : ℕ → Option ℕ → ℕ
place_of n (Some p) = p
place_of n None = suc n

-- it is a place in the file or its end
unfoldable pub is_within : ℕ → Option ℕ → Bool
is_within n (Some p) = leb p n
is_within n None = true

-- the counts, where the statement rows stand and where the label rows
unfoldable pub form_of : List ℕ → Option Form
form_of b =
    if_true (formed b)
    (Some (record { statements = statements_in b; labels = labels_in b; size = data_in b; rows = data_end b; names = rows_end b }))
    None
