-- What is lent, and lines compared with what is given.
-- Assumes nothing.
use Rattle.std.specs.Prelude.{ℕ, ◌-◌, List, [], ◌∷◌, take, replicate}
use Rattle.base_prelude.specs.Choice.{if_lt, if_eq, if_true}
use Rattle.base_prelude.specs.Lists.{same_list, zeros}
use Rattle.vm_definitions.specs.Access.{store_from}
use Rattle.test_lines.specs.Lines.{starts_with}
use Rattle.test_lines.specs.Sources.{Source, source}
use Rattle.test_text.specs.Fields.{count_fields}
use Rattle.test_text.specs.Numbers.{field_value}
use Rattle.test_text.specs.Answers.{add_all, plain_bytes, record_bytes, words_bytes, holds_bytes}
use Rattle.test_text.specs.Buffers.{lesser_of, changed_in}
use Rattle.test_state.specs.declared.Lent.{Lent}
use Rattle.test_state.specs.declared.Fault.TheVariants.{BadLine, Differs}
use Rattle.test_state.specs.declared.Progress.{Progress}
use Rattle.test_state.specs.Progress.{On, on, failed_of, shown_of, unanswered_of, lent_of}

-- `rejected `
abbrev pub rejected-word : List ℕ
rejected-word = 114 ∷ 101 ∷ 106 ∷ 101 ∷ 99 ∷ 116 ∷ 101 ∷ 100 ∷ 32 ∷ []

-- `accepted`
abbrev pub accepted-word : List ℕ
accepted-word = 97 ∷ 99 ∷ 99 ∷ 101 ∷ 112 ∷ 116 ∷ 101 ∷ 100 ∷ []

-- `words `
abbrev pub words-word : List ℕ
words-word = 119 ∷ 111 ∷ 114 ∷ 100 ∷ 115 ∷ 32 ∷ []

-- `holds `
abbrev pub holds-word : List ℕ
holds-word = 104 ∷ 111 ∷ 108 ∷ 100 ∷ 115 ∷ 32 ∷ []

-- `record `
abbrev pub record-word : List ℕ
record-word = 114 ∷ 101 ∷ 99 ∷ 111 ∷ 114 ∷ 100 ∷ 32 ∷ []

-- `same`
abbrev pub same_word : List ℕ
same_word = 115 ∷ 97 ∷ 109 ∷ 101 ∷ []

-- `words 0 0`
abbrev pub words-line : List ℕ
words-line = 119 ∷ 111 ∷ 114 ∷ 100 ∷ 115 ∷ 32 ∷ 48 ∷ 32 ∷ 48 ∷ []

-- `holds 0 0`
abbrev pub holds-line : List ℕ
holds-line = 104 ∷ 111 ∷ 108 ∷ 100 ∷ 115 ∷ 32 ∷ 48 ∷ 32 ∷ 48 ∷ []

-- words of stack, bytes of memory lent
unfoldable pub stack_lent : Progress → ℕ → Progress
stack_lent q n =
    lent_of q (record { statements = q.lent.statements; labels = q.lent.labels; names = q.lent.names; bytes = q.lent.bytes; stack = n; memory = q.lent.memory })

unfoldable pub memory_lent : Progress → ℕ → Progress
memory_lent q n =
    lent_of q (record { statements = q.lent.statements; labels = q.lent.labels; names = q.lent.names; bytes = q.lent.bytes; stack = q.lent.stack; memory = n })

-- `memory N`
unfoldable pub read_memory : List ℕ → Progress → List ℕ → On
read_memory l q m =
    if_eq (count_fields l) 2
    (if_lt 65537 (field_value l 1) (on (failed_of q BadLine) m)
    (on (memory_lent q (field_value l 1)) (store_from m (field_value l 1) (replicate (65537 - field_value l 1) 0))))
    (on (failed_of q BadLine) m)

-- `stack N`
unfoldable pub read_stack : List ℕ → Progress → List ℕ → On
read_stack l q k =
    if_eq (count_fields l) 2
    (if_lt 16385 (field_value l 1) (on (failed_of q BadLine) k)
    (on (stack_lent q (field_value l 1)) (store_from k (field_value l 1) (replicate (16385 - field_value l 1) 0))))
    (on (failed_of q BadLine) k)

-- what is wanted beside what is given
unfoldable pub compare_texts : List ℕ → ℕ → Progress → List ℕ → ℕ → Progress
compare_texts want n q got size =
    if_true (same_list (take n want) (take size got)) q
    (failed_of (shown_of q size) Differs)

-- a text before its first byte
unfoldable pub blank : List ℕ
blank = zeros 16401

-- the text of a line beside what is given; one that fills the room is no line
abbrev pub compare_by : Source → Progress → List ℕ → ℕ → Progress
compare_by s q got size = if_lt s.size 16401 (compare_texts s.text s.size q got size) (failed_of q BadLine)

-- a line beside what is given
unfoldable pub compare_line : List ℕ → Progress → List ℕ → ℕ → Progress
compare_line l q got size = compare_by (add_all (plain_bytes l) (source 0 blank)) q got size

-- a line beside the text that is given
abbrev pub compared : List ℕ → Progress → Source → On
compared l q s = on (compare_line l q s.text s.size) s.text

-- an answer with no call before it: that of an accepted source
unfoldable pub read_accepted : List ℕ → Progress → List ℕ → On
read_accepted l q got =
    if_true (starts_with l rejected-word) (compared l q (add_all accepted-word (source 0 got)))
    (on (failed_of q BadLine) got)

-- the answer of the last call
unfoldable pub read_answer : List ℕ → Progress → List ℕ → On
read_answer l q got =
    if_eq q.given 0 (read_accepted l q got)
    (on (compare_line l (unanswered_of q) got q.given) got)

-- `words INDEX W ..`
unfoldable pub view_words : List ℕ → Progress → List ℕ → List ℕ → On
view_words l q got k =
    if_lt (field_value l 1) 16385
    (compared l q (add_all (words_bytes l (field_value l 1) (take (lesser_of q.lent.stack 16385) k)) (source 0 got)))
    (on (failed_of q BadLine) got)

-- `holds ADDRESS B ..`
unfoldable pub view_bytes : List ℕ → Progress → List ℕ → List ℕ → On
view_bytes l q got m =
    if_lt (field_value l 1) 65537
    (compared l q (add_all (holds_bytes l (field_value l 1) (take (lesser_of q.lent.memory 65537) m)) (source 0 got)))
    (on (failed_of q BadLine) got)

-- what the last call changed first: a word, a byte, or nothing
unfoldable pub add_change : Lent → List ℕ → List ℕ → List ℕ → Source
add_change a got k m =
    if_lt (changed_in 16385 k (lesser_of a.stack 16385)) (lesser_of a.stack 16385)
    (add_all (words_bytes words-line (changed_in 16385 k (lesser_of a.stack 16385)) (take (lesser_of a.stack 16385) k)) (source 0 got))
    (if_lt (changed_in 65537 m (lesser_of a.memory 65537)) (lesser_of a.memory 65537)
    (add_all (holds_bytes holds-line (changed_in 65537 m (lesser_of a.memory 65537)) (take (lesser_of a.memory 65537) m)) (source 0 got))
    (add_all same_word (source 0 got)))

-- what stands in the record, the stack and the memory
unfoldable pub read_view : List ℕ → Progress → List ℕ → List ℕ → List ℕ → On
read_view l q got k m =
    if_true (starts_with l words-word) (view_words l q got k)
    (if_true (starts_with l holds-word) (view_bytes l q got m)
    (if_true (starts_with l record-word) (compared l q (add_all (record_bytes q.machine) (source 0 got)))
    (compared l q (add_change q.lent got k m))))
