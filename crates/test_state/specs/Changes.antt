-- Changes between calls.
-- Assumes nothing.
use Rattle.std.specs.Prelude.{ℕ, ◌+◌, ◌*◌, ◌%◌, List, [], ◌∷◌, set}
use Rattle.base_prelude.specs.Choice.{if_lt, if_eq, if_true}
use Rattle.test_lines.specs.Lines.{starts_with}
use Rattle.test_lines.specs.Fields.{no_number}
use Rattle.test_text.specs.Fields.{count_fields, has_word}
use Rattle.test_text.specs.Numbers.{field_value, has_values}
use Rattle.test_text.specs.Records.{is_record_poke, poke_record}
use Rattle.test_text.specs.Buffers.{bytes_stored}
use Rattle.test_state.specs.declared.Lent.{Lent}
use Rattle.test_state.specs.declared.Fault.TheVariants.{BadLine}
use Rattle.test_state.specs.declared.Progress.{Progress}
use Rattle.test_state.specs.Progress.{On, on, failed_of, counted_of, lent_of, machine_of}

-- `bytes `
abbrev pub bytes_word : List ℕ
bytes_word = 98 ∷ 121 ∷ 116 ∷ 101 ∷ 115 ∷ 32 ∷ []

-- `poke `
abbrev pub poke-word : List ℕ
poke-word = 112 ∷ 111 ∷ 107 ∷ 101 ∷ 32 ∷ []

-- `count `
abbrev pub count_word : List ℕ
count_word = 99 ∷ 111 ∷ 117 ∷ 110 ∷ 116 ∷ 32 ∷ []

-- `lend `
abbrev pub lend-word : List ℕ
lend-word = 108 ∷ 101 ∷ 110 ∷ 100 ∷ 32 ∷ []

-- `poke statement `
abbrev pub poke-statement-word : List ℕ
poke-statement-word = 112 ∷ 111 ∷ 107 ∷ 101 ∷ 32 ∷ 115 ∷ 116 ∷ 97 ∷ 116 ∷ 101 ∷ 109 ∷ 101 ∷ 110 ∷ 116 ∷ 32 ∷ []

-- `poke label `
abbrev pub poke-label-word : List ℕ
poke-label-word = 112 ∷ 111 ∷ 107 ∷ 101 ∷ 32 ∷ 108 ∷ 97 ∷ 98 ∷ 101 ∷ 108 ∷ 32 ∷ []

-- `poke name `
abbrev pub poke-name-word : List ℕ
poke-name-word = 112 ∷ 111 ∷ 107 ∷ 101 ∷ 32 ∷ 110 ∷ 97 ∷ 109 ∷ 101 ∷ 32 ∷ []

-- `poke stack `
abbrev pub poke-stack-word : List ℕ
poke-stack-word = 112 ∷ 111 ∷ 107 ∷ 101 ∷ 32 ∷ 115 ∷ 116 ∷ 97 ∷ 99 ∷ 107 ∷ 32 ∷ []

-- `poke record `
abbrev pub poke-record-word : List ℕ
poke-record-word = 112 ∷ 111 ∷ 107 ∷ 101 ∷ 32 ∷ 114 ∷ 101 ∷ 99 ∷ 111 ∷ 114 ∷ 100 ∷ 32 ∷ []

-- `statements `
abbrev pub statements-word : List ℕ
statements-word = 115 ∷ 116 ∷ 97 ∷ 116 ∷ 101 ∷ 109 ∷ 101 ∷ 110 ∷ 116 ∷ 115 ∷ 32 ∷ []

-- `labels `
abbrev pub labels-word : List ℕ
labels-word = 108 ∷ 97 ∷ 98 ∷ 101 ∷ 108 ∷ 115 ∷ 32 ∷ []

-- `data `
abbrev pub data-word : List ℕ
data-word = 100 ∷ 97 ∷ 116 ∷ 97 ∷ 32 ∷ []

-- `names `
abbrev pub names-word : List ℕ
names-word = 110 ∷ 97 ∷ 109 ∷ 101 ∷ 115 ∷ 32 ∷ []

-- `bytes ADDRESS B ..`
unfoldable pub read_bytes : List ℕ → Progress → List ℕ → On
read_bytes l q m =
    if_lt (field_value l 1) 65537
    (if_true (bytes_stored l (field_value l 1) q.lent.memory m).done
    (on q (bytes_stored l (field_value l 1) q.lent.memory m).memory)
    (on (failed_of q BadLine) (bytes_stored l (field_value l 1) q.lent.memory m).memory))
    (on (failed_of q BadLine) m)

-- `poke statement ROW WORD VALUE`
unfoldable pub poke_statement : List ℕ → Progress → List ℕ → On
poke_statement l q t =
    if_lt (field_value l 2) 1024
    (if_lt (field_value l 3) 27
    (if_true (has_values l 4 5) (on q (set t (field_value l 2 * 27 + field_value l 3) (field_value l 4 % no_number)))
    (on (failed_of q BadLine) t))
    (on (failed_of q BadLine) t))
    (on (failed_of q BadLine) t)

-- `poke label ROW WORD VALUE`
unfoldable pub poke_label : List ℕ → Progress → List ℕ → On
poke_label l q t =
    if_lt (field_value l 2) 256
    (if_lt (field_value l 3) 4
    (if_true (has_values l 4 5) (on q (set t (field_value l 2 * 4 + field_value l 3 + 27648) (field_value l 4 % no_number)))
    (on (failed_of q BadLine) t))
    (on (failed_of q BadLine) t))
    (on (failed_of q BadLine) t)

-- `poke name ROW BYTE VALUE`
unfoldable pub poke_name : List ℕ → Progress → List ℕ → On
poke_name l q b =
    if_lt (field_value l 2) 256
    (if_lt (field_value l 3) 64
    (if_eq (count_fields l) 5
    (if_lt 255 (field_value l 4) (on (failed_of q BadLine) b)
    (on q (set b (field_value l 2 * 64 + field_value l 3) (field_value l 4))))
    (on (failed_of q BadLine) b))
    (on (failed_of q BadLine) b))
    (on (failed_of q BadLine) b)

-- `poke stack INDEX VALUE`
unfoldable pub poke_stack : List ℕ → Progress → List ℕ → On
poke_stack l q k =
    if_lt (field_value l 2) 16385
    (if_true (has_values l 2 4) (on q (set k (field_value l 2) (field_value l 3 % no_number)))
    (on (failed_of q BadLine) k))
    (on (failed_of q BadLine) k)

-- `poke record FIELD VALUE`
unfoldable pub poke_machine : List ℕ → Progress → Progress
poke_machine l q =
    if_true (is_record_poke l) (machine_of q (poke_record l q.machine))
    (failed_of q BadLine)

-- a progress, and the buffers that a poke changes
abbrev pub Poked : Type 0
Poked = record { progress : Progress; rows : List ℕ; bytes : List ℕ; stack : List ℕ }

abbrev pub poked : Progress → List ℕ → List ℕ → List ℕ → Poked
poked progress rows bytes stack = record { progress = progress; rows = rows; bytes = bytes; stack = stack }

-- what a line pokes
unfoldable pub read_poke : List ℕ → Progress → List ℕ → List ℕ → List ℕ → Poked
read_poke l q t b k =
    if_true (starts_with l poke-statement-word)
    (poked (poke_statement l q t).progress (poke_statement l q t).buffer b k)
    (if_true (starts_with l poke-label-word) (poked (poke_label l q t).progress (poke_label l q t).buffer b k)
    (if_true (starts_with l poke-name-word) (poked (poke_name l q b).progress t (poke_name l q b).buffer k)
    (if_true (starts_with l poke-stack-word) (poked (poke_stack l q k).progress t b (poke_stack l q k).buffer)
    (if_true (starts_with l poke-record-word) (poked (poke_machine l q) t b k)
    (poked (failed_of q BadLine) t b k)))))

-- the count that a line names
unfoldable pub count_part : List ℕ → Progress → ℕ → Progress
count_part l q n =
    if_true (has_word l 1 statements-word) (counted_of q n q.counts.labels q.counts.bytes)
    (if_true (has_word l 1 labels-word) (counted_of q q.counts.statements n q.counts.bytes)
    (if_true (has_word l 1 data-word) (counted_of q q.counts.statements q.counts.labels n)
    (failed_of q BadLine)))

-- `count statements N`, `count labels N`, `count data N`
unfoldable pub read_count : List ℕ → Progress → Progress
read_count l q =
    if_true (has_values l 2 3) (count_part l q (field_value l 2 % no_number))
    (failed_of q BadLine)

-- a part of n lent, at most so many
unfoldable pub lend_part : Progress → ℕ → ℕ → Lent → Progress
lend_part q n most a = if_lt most n (failed_of q BadLine) (lent_of q a)

unfoldable pub lend_statements : Progress → ℕ → Progress
lend_statements q n =
    lend_part q n 27648
    (record { statements = n; labels = q.lent.labels; names = q.lent.names; bytes = q.lent.bytes; stack = q.lent.stack; memory = q.lent.memory })

unfoldable pub lend_labels : Progress → ℕ → Progress
lend_labels q n =
    lend_part q n 1024
    (record { statements = q.lent.statements; labels = n; names = q.lent.names; bytes = q.lent.bytes; stack = q.lent.stack; memory = q.lent.memory })

unfoldable pub lend_names : Progress → ℕ → Progress
lend_names q n =
    lend_part q n 16384
    (record { statements = q.lent.statements; labels = q.lent.labels; names = n; bytes = q.lent.bytes; stack = q.lent.stack; memory = q.lent.memory })

unfoldable pub lend_bytes : Progress → ℕ → Progress
lend_bytes q n =
    lend_part q n 32768
    (record { statements = q.lent.statements; labels = q.lent.labels; names = q.lent.names; bytes = n; stack = q.lent.stack; memory = q.lent.memory })

-- `lend statements N`, `lend labels N`, `lend names N`, `lend data N`
unfoldable pub read_lend : List ℕ → Progress → Progress
read_lend l q =
    if_eq (count_fields l) 3
    (if_true (has_word l 1 statements-word) (lend_statements q (field_value l 2))
    (if_true (has_word l 1 labels-word) (lend_labels q (field_value l 2))
    (if_true (has_word l 1 names-word) (lend_names q (field_value l 2))
    (if_true (has_word l 1 data-word) (lend_bytes q (field_value l 2))
    (failed_of q BadLine)))))
    (failed_of q BadLine)

-- a progress, and the buffers that a change between calls may change
abbrev pub Changed : Type 0
Changed = record { progress : Progress; rows : List ℕ; bytes : List ℕ; stack : List ℕ; memory : List ℕ }

abbrev pub changed : Progress → List ℕ → List ℕ → List ℕ → List ℕ → Changed
changed progress rows bytes stack memory =
    record { progress = progress; rows = rows; bytes = bytes; stack = stack; memory = memory }

abbrev pub poked_by : Poked → List ℕ → Changed
poked_by x memory = changed x.progress x.rows x.bytes x.stack memory

-- a change between calls
unfoldable pub read_change : List ℕ → Progress → List ℕ → List ℕ → List ℕ → List ℕ → Changed
read_change l q t b k m =
    if_true (starts_with l bytes_word) (changed (read_bytes l q m).progress t b k (read_bytes l q m).buffer)
    (if_true (starts_with l poke-word) (poked_by (read_poke l q t b k) m)
    (if_true (starts_with l count_word) (changed (read_count l q) t b k m)
    (if_true (starts_with l lend-word) (changed (read_lend l q) t b k m)
    (changed (failed_of q BadLine) t b k m))))
