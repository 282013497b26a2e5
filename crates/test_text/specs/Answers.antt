-- Answers as bytes, in the words of a case file, and bytes added to a text.
-- Assumes nothing.
use Rattle.vm_definitions.specs.declared.StartError.{StartError}
use Rattle.std.specs.Prelude.{ℕ, zero, suc, ◌-◌, List, [], ◌∷◌, ◌++◌, length, slice_index, Ok, Err}
use Rattle.base_prelude.specs.Choice.{if_lt, if_true}
use Rattle.base_limits.specs.declared.State.{State}
use Rattle.base_limits.specs.declared.State.TheVariants.{Running, Finished, Stopped, Paused}
use Rattle.base_limits.specs.declared.Pause.{Pause}
use Rattle.base_limits.specs.declared.Machine.{Machine}
use Rattle.base_limits.specs.Record.{paused_words}
use Rattle.vm_definitions.specs.declared.Broken.{Broken}
use Rattle.vm_definitions.specs.declared.Broken.TheVariants.{No, At, Somewhere}
use Rattle.vm_definitions.specs.Start.{Started}
use Rattle.vm_definitions.specs.declared.StartError.TheVariants.{Refused, Unsound}
use Rattle.vm_definitions.specs.declared.Outcome.{Outcome}
use Rattle.vm_definitions.specs.declared.Resumed.{Resumed}
use Rattle.app_page.specs.Bytes.{decimal, field}
use Rattle.test_lines.specs.Fields.{no_number, field_start}
use Rattle.test_lines.specs.Sources.{Source, add_byte}
use Rattle.test_text.specs.Fields.{count_fields, raw_at}
use Rattle.test_text.specs.Numbers.{field_value}

-- a text with bytes more
unfoldable pub add_all : List ℕ → Source → Source
add_all [] q = q
add_all (c ∷ cs) q = add_all cs (add_byte q.text q.size c)

-- a field: a number in decimal, another word as it is
unfoldable pub field_bytes : List ℕ → ℕ → List ℕ
field_bytes l k = if_lt (field_value l k) no_number (decimal (field_value l k)) (raw_at l (field_start l k))

-- fields from one on, a blank before each
unfoldable pub fields_from : List ℕ → ℕ → ℕ → List ℕ
fields_from l zero k = []
fields_from l (suc left) k = (32 ∷ []) ++ (field_bytes l k ++ fields_from l left (suc k))

-- a line with its numbers modulo 2^32
unfoldable pub plain_bytes : List ℕ → List ℕ
plain_bytes l = field_bytes l 0 ++ fields_from l (count_fields l - 1) 1

-- ` none`
abbrev pub none-word : List ℕ
none-word = 32 ∷ 110 ∷ 111 ∷ 110 ∷ 101 ∷ []

-- `begun`
abbrev pub begun-word : List ℕ
begun-word = 98 ∷ 101 ∷ 103 ∷ 117 ∷ 110 ∷ []

-- `refused`
abbrev pub refused-word : List ℕ
refused-word = 114 ∷ 101 ∷ 102 ∷ 117 ∷ 115 ∷ 101 ∷ 100 ∷ []

-- `broken`
abbrev pub broken-word : List ℕ
broken-word = 98 ∷ 114 ∷ 111 ∷ 107 ∷ 101 ∷ 110 ∷ []

-- `rejected`
abbrev pub rejected-word : List ℕ
rejected-word = 114 ∷ 101 ∷ 106 ∷ 101 ∷ 99 ∷ 116 ∷ 101 ∷ 100 ∷ []

-- `going`
abbrev pub going-word : List ℕ
going-word = 103 ∷ 111 ∷ 105 ∷ 110 ∷ 103 ∷ []

-- `finished`
abbrev pub finished-word : List ℕ
finished-word = 102 ∷ 105 ∷ 110 ∷ 105 ∷ 115 ∷ 104 ∷ 101 ∷ 100 ∷ []

-- `stopped`
abbrev pub stopped-word : List ℕ
stopped-word = 115 ∷ 116 ∷ 111 ∷ 112 ∷ 112 ∷ 101 ∷ 100 ∷ []

-- `paused`
abbrev pub paused-word : List ℕ
paused-word = 112 ∷ 97 ∷ 117 ∷ 115 ∷ 101 ∷ 100 ∷ []

-- `record`
abbrev pub record-word : List ℕ
record-word = 114 ∷ 101 ∷ 99 ∷ 111 ∷ 114 ∷ 100 ∷ []

-- `words`
abbrev pub words-word : List ℕ
words-word = 119 ∷ 111 ∷ 114 ∷ 100 ∷ 115 ∷ []

-- `holds`
abbrev pub holds-word : List ℕ
holds-word = 104 ∷ 111 ∷ 108 ∷ 100 ∷ 115 ∷ []

-- the place of a 35
unfoldable pub broken_bytes : Broken → List ℕ
broken_bytes No = []
broken_bytes (At i) = field i
broken_bytes Somewhere = none-word

-- what a start answers
unfoldable pub error_bytes : StartError → List ℕ
error_bytes (Refused n) = refused-word ++ field n
error_bytes (Unsound b) = broken-word ++ broken_bytes b

unfoldable pub started_bytes : Started → List ℕ
started_bytes (Ok _) = begun-word
started_bytes (Err e) = error_bytes e

-- a refusal of the source
unfoldable pub rejected_bytes : ℕ → ℕ → List ℕ
rejected_bytes number place = rejected-word ++ (field number ++ field place)

-- a word and a count
unfoldable pub counted_bytes : List ℕ → ℕ → List ℕ
counted_bytes word count = word ++ field count

unfoldable pub stopped_bytes : ℕ → ℕ → ℕ → List ℕ
stopped_bytes count number statement = counted_bytes stopped-word count ++ (field number ++ field statement)

unfoldable pub finished_bytes : ℕ → ℕ → List ℕ
finished_bytes count word = counted_bytes finished-word count ++ field word

-- a blank and a number for each word
unfoldable pub list_bytes : List ℕ → List ℕ
list_bytes [] = []
list_bytes (w ∷ ws) = field w ++ list_bytes ws

-- a pause: the imported name's number and its arguments
unfoldable pub paused_bytes : ℕ → Pause → List ℕ
paused_bytes count q = counted_bytes paused-word count ++ (field q.number ++ list_bytes (paused_words q))

unfoldable pub state_bytes : State → ℕ → List ℕ
state_bytes Running count = counted_bytes going-word count
state_bytes (Finished word) count = finished_bytes count word
state_bytes (Stopped number statement) count = stopped_bytes count number statement
state_bytes (Paused q) count = paused_bytes count q

unfoldable pub unsound_bytes : Broken → ℕ → List ℕ
unsound_bytes b count = counted_bytes broken-word count ++ broken_bytes b

abbrev pub answer_bytes : Broken → State → ℕ → List ℕ
answer_bytes No q count = state_bytes q count
answer_bytes (At i) q count = unsound_bytes (At i) count
answer_bytes Somewhere q count = unsound_bytes Somewhere count

-- what a step or a run answers
unfoldable pub outcome_bytes : Outcome → List ℕ
outcome_bytes o = answer_bytes o.broken o.machine.state o.count

-- what going on answers: 37 where the record is not paused
unfoldable pub resumed_bytes : Resumed → List ℕ
resumed_bytes o = if_true o.unpaused (started_bytes (Err (Refused 37))) (outcome_bytes o.outcome)

-- the numbers of a record
unfoldable pub record_bytes : Machine → List ℕ
record_bytes r = counted_bytes record-word r.next ++ (field r.frame ++ (field r.used ++ field r.top))

-- so many elements from a place on; `none` past the end
unfoldable pub numbers_from : List ℕ → ℕ → ℕ → List ℕ
numbers_from s zero i = []
numbers_from s (suc left) i = if_lt i (length s) (field (slice_index s i) ++ numbers_from s left (suc i)) none-word

-- words from a place on, as many as a line has behind its place
unfoldable pub words_bytes : List ℕ → ℕ → List ℕ → List ℕ
words_bytes l at stack = counted_bytes words-word at ++ numbers_from stack (count_fields l - 2) at

unfoldable pub holds_bytes : List ℕ → ℕ → List ℕ → List ℕ
holds_bytes l at memory = counted_bytes holds-word at ++ numbers_from memory (count_fields l - 2) at
