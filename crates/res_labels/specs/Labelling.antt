-- The label table and the name table, made of the outline's label rows.
-- Assumes nothing.
use Rattle.std.specs.Prelude.{ℕ, zero, suc, ◌+◌, ◌-◌, ◌*◌, List, [], ◌∷◌, ◌++◌, take, drop, get_or}
use Rattle.base_prelude.specs.Choice.{if_eq}
use Rattle.base_prelude.specs.Lists.{overlay}
use Rattle.base_limits.specs.Limits as limits
use Rattle.base_limits.specs.declared.Width.{Width}
use Rattle.lang_kinds.specs.TokenRow as field
use Rattle.prog_tables.specs.OutlineLabel as outline
use Rattle.prog_tables.specs.Layout.{label_row, data_label, exported_data, function_label, exported_function, import_label}
use Rattle.prog_tables.specs.Hosts.{mark_number, mark_arguments}
use Rattle.lex_spelling.specs.Text.{name_at}
use Rattle.parse_lines.specs.Tokens.{token_word, value_at}
use Rattle.res_data.specs.Sizes.{address_of}

-- word f of label row j of the outline
unfoldable pub outline_word : List ℕ → ℕ → ℕ → ℕ
outline_word y j f = get_or y (j * label_row + f) 0

-- 1 where label j is exported
unfoldable pub flag_at : List ℕ → ℕ → ℕ
flag_at flags j = get_or flags j 0

-- 1 data, 3 function, 5 place, 6 import; exported data is 2, an exported function 4
unfoldable pub exported_kind : ℕ → ℕ
exported_kind kind = if_eq kind data_label exported_data (if_eq kind function_label exported_function kind)

unfoldable pub final_kind : ℕ → ℕ → ℕ
final_kind kind flag = if_eq flag 1 (exported_kind kind) kind

-- "address or statement number from 0": row n + 1 of the outline is statement n; of an import "the name's number" (02, 3)
unfoldable pub final_number : Width → List ℕ → ℕ → ℕ → ℕ
final_number w t kind number =
    if_eq kind data_label (address_of w t number)
    (if_eq kind import_label (mark_number number)
    (number - 1))

-- of an import "the argument count"
unfoldable pub final_arguments : ℕ → ℕ → ℕ
final_arguments kind number = if_eq kind import_label (mark_arguments number) 0

-- the row of label j: kind, number, argument count, bytes of the name
unfoldable pub label_words : Width → List ℕ → List ℕ → List ℕ → ℕ → List ℕ
label_words w t y flags j =
    final_kind (outline_word y j outline.kind) (flag_at flags j)
    ∷ final_number w t (outline_word y j outline.kind) (outline_word y j outline.names)
    ∷ final_arguments (outline_word y j outline.kind) (outline_word y j outline.names)
    ∷ value_at t (outline_word y j outline.token)
    ∷ []

-- words as row j of the label table
unfoldable pub put_words : List ℕ → ℕ → List ℕ → List ℕ
put_words out j words = take (j * label_row) out ++ words ++ drop (j * label_row + label_row) out

-- rows from j on, so many of them
unfoldable pub labels_from : ℕ → Width → List ℕ → List ℕ → List ℕ → ℕ → List ℕ → List ℕ
labels_from zero w t y flags j out = out
labels_from (suc left) w t y flags j out = labels_from left w t y flags (j + 1) (put_words out j (label_words w t y flags j))

-- the label table: the rows of the labels before l, over a buffer
unfoldable pub label_table : Width → List ℕ → List ℕ → List ℕ → ℕ → List ℕ → List ℕ
label_table w t y flags l out = labels_from l w t y flags 0 out

-- the decoded name of label j
unfoldable pub label_name : List ℕ → List ℕ → List ℕ → ℕ → List ℕ
label_name s t y j = name_at s (token_word t (outline_word y j outline.token) field.first)

-- bytes over the front of the bytes of row j
unfoldable pub put_name : List ℕ → ℕ → List ℕ → List ℕ
put_name names j bytes =
    take (j * limits.name_bytes) names
    ++ (overlay bytes (take limits.name_bytes (drop (j * limits.name_bytes) names)) ++ drop limits.name_bytes (drop (j * limits.name_bytes) names))

-- names from j on, so many of them
unfoldable pub names_from : ℕ → List ℕ → List ℕ → List ℕ → ℕ → List ℕ → List ℕ
names_from zero s t y j names = names
names_from (suc left) s t y j names = names_from left s t y (j + 1) (put_name names j (label_name s t y j))

-- the name table: the names of the labels before l, over a buffer
unfoldable pub name_table : List ℕ → List ℕ → List ℕ → ℕ → List ℕ → List ℕ
name_table s t y l names = names_from l s t y 0 names
