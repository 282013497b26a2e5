-- The lines of a case.
-- Assumes nothing.
use Rattle.std.specs.Prelude.{ℕ, Bool, true, false, List, [], ◌∷◌, Option, None, Some}
use Rattle.base_prelude.specs.Choice.{if_lt, if_true}
use Rattle.base_prelude.specs.Lists.{same_list}
use Rattle.test_lines.specs.Lines.{starts_with}
use Rattle.test_lines.specs.Sources.{is_source}
use Rattle.test_state.specs.declared.Fault.{Fault}
use Rattle.test_state.specs.declared.Fault.TheVariants.{NoAnswer}
use Rattle.test_state.specs.declared.Progress.{Progress}
use Rattle.test_state.specs.Progress.{failed_of, unanswered_of}
use Rattle.test_state.specs.Source.{body-word, read_source}
use Rattle.test_state.specs.Views.{read_memory, read_stack, read_answer, read_view}
use Rattle.test_state.specs.Changes.{Changed, read_change}
use Rattle.test_cases.specs.Checks.{Once, check_once}
use Rattle.test_calls.specs.Calls.{Ran, run-word, resume-word, step-word, is_start, read_call}

-- `begun`
abbrev pub begun-word : List ℕ
begun-word = 98 ∷ 101 ∷ 103 ∷ 117 ∷ 110 ∷ []

-- `refused `
abbrev pub refused-word : List ℕ
refused-word = 114 ∷ 101 ∷ 102 ∷ 117 ∷ 115 ∷ 101 ∷ 100 ∷ 32 ∷ []

-- `broken `
abbrev pub broken-word : List ℕ
broken-word = 98 ∷ 114 ∷ 111 ∷ 107 ∷ 101 ∷ 110 ∷ 32 ∷ []

-- `going `
abbrev pub going-word : List ℕ
going-word = 103 ∷ 111 ∷ 105 ∷ 110 ∷ 103 ∷ 32 ∷ []

-- `finished `
abbrev pub finished-word : List ℕ
finished-word = 102 ∷ 105 ∷ 110 ∷ 105 ∷ 115 ∷ 104 ∷ 101 ∷ 100 ∷ 32 ∷ []

-- `stopped `
abbrev pub stopped-word : List ℕ
stopped-word = 115 ∷ 116 ∷ 111 ∷ 112 ∷ 112 ∷ 101 ∷ 100 ∷ 32 ∷ []

-- `paused `
abbrev pub paused-word : List ℕ
paused-word = 112 ∷ 97 ∷ 117 ∷ 115 ∷ 101 ∷ 100 ∷ 32 ∷ []

-- `rejected `
abbrev pub rejected-word : List ℕ
rejected-word = 114 ∷ 101 ∷ 106 ∷ 101 ∷ 99 ∷ 116 ∷ 101 ∷ 100 ∷ 32 ∷ []

-- `record `
abbrev pub record-word : List ℕ
record-word = 114 ∷ 101 ∷ 99 ∷ 111 ∷ 114 ∷ 100 ∷ 32 ∷ []

-- `words `
abbrev pub words-word : List ℕ
words-word = 119 ∷ 111 ∷ 114 ∷ 100 ∷ 115 ∷ 32 ∷ []

-- `holds `
abbrev pub holds-word : List ℕ
holds-word = 104 ∷ 111 ∷ 108 ∷ 100 ∷ 115 ∷ 32 ∷ []

-- `same`
abbrev pub same_word : List ℕ
same_word = 115 ∷ 97 ∷ 109 ∷ 101 ∷ []

-- `memory `
abbrev pub memory_word : List ℕ
memory_word = 109 ∷ 101 ∷ 109 ∷ 111 ∷ 114 ∷ 121 ∷ 32 ∷ []

-- `stack `
abbrev pub stack-word : List ℕ
stack-word = 115 ∷ 116 ∷ 97 ∷ 99 ∷ 107 ∷ 32 ∷ []

unfoldable pub is_call : List ℕ → Bool
is_call l =
    if_true (is_start l) true
    (if_true (starts_with l run-word) true
    (if_true (starts_with l resume-word) true
    (same_list l step-word)))

unfoldable pub is_answer : List ℕ → Bool
is_answer l =
    if_true (starts_with l begun-word) true
    (if_true (starts_with l refused-word) true
    (if_true (starts_with l broken-word) true
    (if_true (starts_with l going-word) true
    (if_true (starts_with l finished-word) true
    (if_true (starts_with l stopped-word) true
    (if_true (starts_with l paused-word) true
    (starts_with l rejected-word)))))))

unfoldable pub is_view : List ℕ → Bool
is_view l =
    if_true (starts_with l record-word) true
    (if_true (starts_with l words-word) true
    (if_true (starts_with l holds-word) true
    (starts_with l same_word)))

unfoldable pub is_text : List ℕ → Bool
is_text l =
    if_true (is_source l) true
    (starts_with l body-word)

-- a progress, and the buffers that a line behind the check may change
abbrev pub Done : Type 0
Done = record { progress : Progress; got : List ℕ; rows : List ℕ; bytes : List ℕ; stack : List ℕ; memory : List ℕ }

abbrev pub done : Progress → List ℕ → List ℕ → List ℕ → List ℕ → List ℕ → Done
done progress got rows bytes stack memory =
    record { progress = progress; got = got; rows = rows; bytes = bytes; stack = stack; memory = memory }

abbrev pub ran_with : Ran → List ℕ → List ℕ → Done
ran_with x rows bytes = done x.progress x.got rows bytes x.stack x.memory

abbrev pub changed_with : Changed → List ℕ → Done
changed_with x got = done x.progress got x.rows x.bytes x.stack x.memory

-- a line behind the check; the answer of a call stands right behind it
unfoldable pub read_checked : List ℕ → Progress → List ℕ → List ℕ → List ℕ → List ℕ → List ℕ → Done
read_checked l q got t b k m =
    if_true (is_answer l) (done (read_answer l q got).progress (read_answer l q got).buffer t b k m)
    (if_lt 0 q.given (done (failed_of (unanswered_of q) NoAnswer) got t b k m)
    (if_true (is_call l) (ran_with (read_call l q got t b k m) t b)
    (if_true (is_view l) (done (read_view l q got k m).progress (read_view l q got k m).buffer t b k m)
    (changed_with (read_change l q t b k m) got))))

-- a progress, and the buffers of a case
abbrev pub Lined : Type 0
Lined =
    record { progress : Progress; text : List ℕ; got : List ℕ; rows : List ℕ; bytes : List ℕ; stack : List ℕ; memory : List ℕ }

abbrev pub lined : Progress → List ℕ → List ℕ → List ℕ → List ℕ → List ℕ → List ℕ → Lined
lined progress text got rows bytes stack memory =
    record { progress = progress; text = text; got = got; rows = rows; bytes = bytes; stack = stack; memory = memory }

abbrev pub done_with : Done → List ℕ → Lined
done_with x text = lined x.progress text x.got x.rows x.bytes x.stack x.memory

-- whether a line came to a fault
abbrev pub is_fault : Option Fault → Bool
is_fault None = false
is_fault (Some f) = true

abbrev pub behind_by : List ℕ → Once → List ℕ → List ℕ → Lined
behind_by l x k m =
    if_true (is_fault x.progress.fault) (lined x.progress x.text x.got x.rows x.bytes k m)
    (done_with (read_checked l x.progress x.got x.rows x.bytes k m) x.text)

-- a line that needs the tables of the source
unfoldable pub read_behind : List ℕ → Progress → List ℕ → List ℕ → List ℕ → List ℕ → List ℕ → List ℕ → Lined
read_behind l q text got t b k m = behind_by l (check_once q text got t b) k m

-- a line of a case
unfoldable pub read_line : List ℕ → Progress → List ℕ → List ℕ → List ℕ → List ℕ → List ℕ → List ℕ → Lined
read_line l q text got t b k m =
    if_true (is_text l) (lined (read_source l q text).progress (read_source l q text).buffer got t b k m)
    (if_true (starts_with l memory_word) (lined (read_memory l q m).progress text got t b k (read_memory l q m).buffer)
    (if_true (starts_with l stack-word) (lined (read_stack l q k).progress text got t b (read_stack l q k).buffer m)
    (read_behind l q text got t b k m)))
