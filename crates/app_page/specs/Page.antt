-- The lister's page (01, 'The lister's page').
-- Assumes nothing.
use Rattle.std.specs.Prelude.{ℕ, zero, suc, ◌+◌, List, [], ◌++◌, length, take, Option, Some, None}
use Rattle.base_prelude.specs.Choice.{if_lt, if_eq}
use Rattle.base_prelude.specs.Lists.{overlay}
use Rattle.prog_tables.specs.Layout.{exported_data, function_label, exported_function, place_label, import_label}
use Rattle.prog_tables.specs.Statement.{row_at}
use Rattle.prog_tables.specs.Label.{Label, label_at}
use Rattle.app_page.specs.Bytes.{decimal, field, name_bytes_of, newlines, accepted-word, label-word, data-word, function-word, place-word, import-word, yes-word, no_word, refused-word, line_word, byte_word, line-end}

-- "Accepted: `accepted`, statements, labels, data bytes"
unfoldable pub head_line : ℕ → ℕ → ℕ → List ℕ
head_line statements labels size = accepted-word ++ field statements ++ field labels ++ field size ++ line-end

-- "kind (`data`, `function`, `place`)": data 1 and exported 2, function 3 and exported 4, place 5; "as kind `import`" (02, 3) 6
unfoldable pub kind_word : ℕ → List ℕ
kind_word kind =
    if_lt kind function_label data-word
    (if_lt kind place_label function-word
    (if_eq kind import_label import-word
    place-word))

-- "`yes` or `no` for exported"
unfoldable pub exported_word : ℕ → List ℕ
exported_word kind = if_eq kind exported_data yes-word (if_eq kind exported_function yes-word no_word)

-- parameters and frame size
unfoldable pub sizes : List ℕ → ℕ → List ℕ
sizes rows statement = field (row_at rows statement).b ++ field (row_at rows statement).a

-- "and for functions parameters and frame size"; of an import "the argument count" (02, 3)
unfoldable pub label_sizes : List ℕ → ℕ → ℕ → ℕ → List ℕ
label_sizes rows kind statement arguments =
    if_lt kind function_label []
    (if_lt kind place_label (sizes rows statement)
    (if_eq kind import_label (field arguments)
    []))

-- behind the name: "kind [..], address or statement number from 0, `yes` or `no`"; of an import "with the name's number, `no`" (02, 3)
unfoldable pub label_tail : List ℕ → ℕ → ℕ → ℕ → List ℕ
label_tail rows kind number arguments = kind_word kind ++ decimal number ++ exported_word kind ++ label_sizes rows kind number arguments ++ line-end

-- "per label [..] `label`, name"; a name has at most 64 bytes
unfoldable pub label_head : List ℕ → List ℕ
label_head name = label-word ++ name_bytes_of (take 64 name)

unfoldable pub label_line : List ℕ → Label → List ℕ
label_line rows l = label_head l.name ++ label_tail rows l.kind l.number l.arguments

-- the lines of as many labels, from one on
unfoldable pub label_lines : ℕ → List ℕ → List ℕ → List ℕ → ℕ → List ℕ
label_lines zero table names rows i = []
label_lines (suc left) table names rows i = label_line rows (label_at table names i) ++ label_lines left table names rows (suc i)

-- statements, labels, data bytes; the label table, the name table, the statement table
unfoldable pub accepted_page : ℕ → ℕ → ℕ → List ℕ → List ℕ → List ℕ → List ℕ
accepted_page statements labels size table names rows = head_line statements labels size ++ label_lines labels table names rows 0

-- "lines from 1"
unfoldable pub line_of : List ℕ → ℕ → ℕ
line_of source place = newlines (take place source) + 1

-- "Refused: `refused N line L byte B`, lines from 1, bytes of the source from 0."
unfoldable pub refused_page : List ℕ → ℕ → ℕ → List ℕ
refused_page source number place =
    (refused-word ++ field number ++ line_word) ++ (field (line_of source place) ++ byte_word ++ field place ++ line-end)

-- an answer, the page's length or None, and the buffer
pub record Shown : Type 0 where
  pub answer : Option ℕ
  pub out : List ℕ

abbrev pub shown : Option ℕ → List ℕ → Shown
shown a out = record { answer = a; out = out }

-- a page in a buffer: its length, and the page over the buffer's front; nothing where the buffer is shorter
unfoldable pub shown_on : List ℕ → List ℕ → Shown
shown_on page out = if_lt (length out) (length page) (shown None out) (shown (Some (length page)) (overlay page out))
