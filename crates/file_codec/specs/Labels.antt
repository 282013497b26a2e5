-- Label rows in a file: kind and number, of an import also its argument count; "its decoded name" is the rest of the field.
-- Assumes nothing.
use Rattle.std.specs.Prelude.{ℕ, ◌-◌, Bool, List, [], ◌∷◌, ◌++◌, leb, length, get_or, drop}
use Rattle.base_prelude.specs.Choice.{if_eq}
use Rattle.base_limits.specs.Limits.{name_bytes}
use Rattle.base_word.specs.Bytes.{word_bytes}
use Rattle.prog_tables.specs.Layout.{import_label}
use Rattle.prog_tables.specs.Label.{Label}
use Rattle.file_codec.specs.Words.{word_size, word_in, listed}

-- bytes before the name, of a label of kind k
unfoldable pub label_head : ℕ → ℕ
label_head k = if_eq k import_label 12 8

-- ---- written

unfoldable pub label_bytes : Label → List ℕ
label_bytes l =
    word_bytes word_size l.kind
    ++ (word_bytes word_size l.number ++ (if_eq l.kind import_label (word_bytes word_size l.arguments) [] ++ l.name))

-- ---- read, from the bytes x of a field

unfoldable pub label_kind_in : List ℕ → ℕ
label_kind_in x = word_in x 0

unfoldable pub name_in : List ℕ → List ℕ
name_in x = drop (label_head (label_kind_in x)) x

unfoldable pub name_size : List ℕ → ℕ
name_size x = length x - label_head (label_kind_in x)

-- an import has its argument count, any other label 0
unfoldable pub arguments_in : ℕ → List ℕ → ℕ
arguments_in k x = if_eq k import_label (word_in x 8) 0

-- the four words of the row
unfoldable pub label_words_in : List ℕ → List ℕ
label_words_in x = label_kind_in x ∷ word_in x 4 ∷ arguments_in (label_kind_in x) x ∷ name_size x ∷ []

-- its 64 bytes of the name table: the name, zeros behind it
unfoldable pub name_slot : List ℕ → List ℕ
name_slot x = listed (λ j. get_or (name_in x) j 0) name_bytes 0

-- not "of wrong length"
unfoldable pub label_fits : List ℕ → Bool
label_fits x = leb (label_head (label_kind_in x)) (length x)
