-- Pages that are computed.
-- Assumes nothing.
use mathlib.Core.Path.{◌≡◌, refl}
use mathlib.Core.List.{List, [], ◌∷◌, ◌++◌}
use Prim.Native.Nat.{ℕ}
use Rattle.base_prelude.specs.Choice.{if_lt, if_eq, if_true}
use Rattle.base_prelude.specs.Lists.{zeros}
use Rattle.lex_spelling.specs.Classes.{is_letter, is_digit, is_name_byte}
use Rattle.prog_tables.specs.Statement.{row_from, row_at, operand_at, operand_of}
use Rattle.prog_tables.specs.Label.{label_at}
use Rattle.app_page.specs.Bytes.{digits_within, decimal, field, hex_digit, name_byte, name_bytes_of, newlines}
use Rattle.app_page.specs.Page.{head_line, kind_word, exported_word, sizes, label_sizes, label_tail, label_head, label_line, label_lines, accepted_page, line_of, refused_page}

-- case 1: `stock` is data at 0, `top` an exported function at statement 0
abbrev case1-labels : List ℕ
case1-labels = 1 ∷ 0 ∷ 0 ∷ 5 ∷ 4 ∷ 0 ∷ 0 ∷ 3 ∷ []

-- `stock`, `top`
abbrev case1-names : List ℕ
case1-names = (115 ∷ 116 ∷ 111 ∷ 99 ∷ 107 ∷ []) ++ zeros 59 ++ (116 ∷ 111 ∷ 112 ∷ [])

-- the row of `function a`: frame size 6, one parameter
abbrev case1-rows : List ℕ
case1-rows = 1 ∷ 0 ∷ 0 ∷ 0 ∷ 6 ∷ 1 ∷ []

-- `accepted 6 2 4`, `label stock data 0 no`, `label top function 0 yes 1 6`
pub case1-page : accepted_page 6 2 4 case1-labels case1-names case1-rows
    ≡ (97 ∷ 99 ∷ 99 ∷ 101 ∷ 112 ∷ 116 ∷ 101 ∷ 100 ∷ 32 ∷ 54 ∷ 32 ∷ 50 ∷ 32 ∷ 52 ∷ 10 ∷ [])
    ++ (108 ∷ 97 ∷ 98 ∷ 101 ∷ 108 ∷ 32 ∷ 115 ∷ 116 ∷ 111 ∷ 99 ∷ 107 ∷ 32 ∷ 100 ∷ 97 ∷ 116 ∷ 97 ∷ 32 ∷ 48 ∷ 32 ∷ 110 ∷ 111 ∷ 10 ∷ [])
    ++ (108 ∷ 97 ∷ 98 ∷ 101 ∷ 108 ∷ 32 ∷ 116 ∷ 111 ∷ 112 ∷ 32 ∷ 102 ∷ 117 ∷ 110 ∷ 99 ∷ 116 ∷ 105 ∷ 111 ∷ 110 ∷ 32 ∷ 48 ∷ 32 ∷ 121 ∷ 101 ∷ 115 ∷ 32 ∷ 49 ∷ 32 ∷ 54 ∷ 10 ∷ [])
unfolding if_lt if_eq if_true is_letter is_digit is_name_byte row_from row_at operand_at operand_of label_at digits_within decimal field hex_digit name_byte name_bytes_of newlines head_line kind_word exported_word sizes label_sizes label_tail label_head label_line label_lines accepted_page line_of refused_page
case1-page = refl

-- an empty source: `accepted 0 0 0`
pub empty-page : accepted_page 0 0 0 [] [] [] ≡ 97 ∷ 99 ∷ 99 ∷ 101 ∷ 112 ∷ 116 ∷ 101 ∷ 100 ∷ 32 ∷ 48 ∷ 32 ∷ 48 ∷ 32 ∷ 48 ∷ 10 ∷ []
unfolding if_lt if_eq if_true is_letter is_digit is_name_byte row_from row_at operand_at operand_of label_at digits_within decimal field hex_digit name_byte name_bytes_of newlines head_line kind_word exported_word sizes label_sizes label_tail label_head label_line label_lines accepted_page line_of refused_page
empty-page = refl

-- a name of other bytes: `label a\x20\xff\x5c place 10 no`
pub escaped-name : label_lines 1 (5 ∷ 10 ∷ 0 ∷ 4 ∷ []) (97 ∷ 32 ∷ 255 ∷ 92 ∷ []) [] 0 ≡ 108 ∷ 97 ∷ 98 ∷ 101 ∷ 108 ∷ 32 ∷ 97 ∷ 92 ∷ 120 ∷ 50 ∷ 48 ∷ 92 ∷ 120 ∷ 102 ∷ 102 ∷ 92 ∷ 120 ∷ 53 ∷ 99 ∷ 32 ∷ 112 ∷ 108 ∷ 97 ∷ 99 ∷ 101 ∷ 32 ∷ 49 ∷ 48 ∷ 32 ∷ 110 ∷ 111 ∷ 10 ∷ []
unfolding if_lt if_eq if_true is_letter is_digit is_name_byte row_from row_at operand_at operand_of label_at digits_within decimal field hex_digit name_byte name_bytes_of newlines head_line kind_word exported_word sizes label_sizes label_tail label_head label_line label_lines accepted_page line_of refused_page
escaped-name = refl

-- a place at a byte 10 is on the line it ends: `x`, byte 10, `y`, byte 10, refused there: `refused 7 line 2 byte 3`
pub line-ends : refused_page (120 ∷ 10 ∷ 121 ∷ 10 ∷ []) 7 3 ≡ 114 ∷ 101 ∷ 102 ∷ 117 ∷ 115 ∷ 101 ∷ 100 ∷ 32 ∷ 55 ∷ 32 ∷ 108 ∷ 105 ∷ 110 ∷ 101 ∷ 32 ∷ 50 ∷ 32 ∷ 98 ∷ 121 ∷ 116 ∷ 101 ∷ 32 ∷ 51 ∷ 10 ∷ []
unfolding if_lt if_eq if_true is_letter is_digit is_name_byte row_from row_at operand_at operand_of label_at digits_within decimal field hex_digit name_byte name_bytes_of newlines head_line kind_word exported_word sizes label_sizes label_tail label_head label_line label_lines accepted_page line_of refused_page
line-ends = refl

-- behind the last byte 10: `refused 8 line 3 byte 4`
pub line-behind : refused_page (120 ∷ 10 ∷ 121 ∷ 10 ∷ []) 8 4 ≡ 114 ∷ 101 ∷ 102 ∷ 117 ∷ 115 ∷ 101 ∷ 100 ∷ 32 ∷ 56 ∷ 32 ∷ 108 ∷ 105 ∷ 110 ∷ 101 ∷ 32 ∷ 51 ∷ 32 ∷ 98 ∷ 121 ∷ 116 ∷ 101 ∷ 32 ∷ 52 ∷ 10 ∷ []
unfolding if_lt if_eq if_true is_letter is_digit is_name_byte row_from row_at operand_at operand_of label_at digits_within decimal field hex_digit name_byte name_bytes_of newlines head_line kind_word exported_word sizes label_sizes label_tail label_head label_line label_lines accepted_page line_of refused_page
line-behind = refl

-- `label bath import 0 no 1`
pub import-line : label_lines 1 (6 ∷ 0 ∷ 1 ∷ 4 ∷ []) (98 ∷ 97 ∷ 116 ∷ 104 ∷ []) [] 0 ≡ 108 ∷ 97 ∷ 98 ∷ 101 ∷ 108 ∷ 32 ∷ 98 ∷ 97 ∷ 116 ∷ 104 ∷ 32 ∷ 105 ∷ 109 ∷ 112 ∷ 111 ∷ 114 ∷ 116 ∷ 32 ∷ 48 ∷ 32 ∷ 110 ∷ 111 ∷ 32 ∷ 49 ∷ 10 ∷ []
unfolding if_lt if_eq if_true is_letter is_digit is_name_byte row_from row_at operand_at operand_of label_at digits_within decimal field hex_digit name_byte name_bytes_of newlines head_line kind_word exported_word sizes label_sizes label_tail label_head label_line label_lines accepted_page line_of refused_page
import-line = refl
