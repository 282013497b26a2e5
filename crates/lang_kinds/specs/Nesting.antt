-- Where a line may stand, what it opens and closes.
-- Assumes nothing.
use Rattle.std.specs.Prelude.{ℕ, suc, List, [], ◌∷◌, get_or, Bool, true, false}
use Rattle.base_prelude.specs.Choice.{if_lt, if_eq}
use Rattle.lang_kinds.specs.Kinds as kind
use Rattle.lang_kinds.specs.Grounds as ground
use Rattle.std.specs.declared.ops.Range.{Range}

-- the grounds from one to another
abbrev pub span : ℕ → ℕ → Range ℕ
span first last = record { start = first; end = suc last }

abbrev pub only : ℕ → Range ℕ
only g = span g g

-- no ground
abbrev pub nowhere : Range ℕ
nowhere = record { start = ground.before_sections; end = ground.before_sections }

-- The grounds on which a kind may stand, as the code tests them: of a statement, then of any line. They are what the table of
-- specs/Standing says (proofs/Standing, `ranges-say`).
unfoldable pub statement_in : ℕ → Range ℕ
statement_in k =
    if_eq k kind.function (only ground.functions_section)
    (if_eq k kind.end_function (only ground.in_function)
    (if_eq k kind.end_block (only ground.in_block)
    (if_eq k kind.let_local (span ground.in_function ground.in_block)
    (if_lt k kind.else (span ground.in_function ground.in_else_arm)
    (if_lt k kind.end_if (only ground.in_test_arm)
    (if_eq k kind.end_if (span ground.in_test_arm ground.in_else_arm)
    nowhere))))))

-- lines that other rules refuse wherever they stand; a number that is no kind stands nowhere
unfoldable pub refused_in : ℕ → Range ℕ
refused_in k =
    if_eq k kind.left_out (span ground.before_sections ground.in_else_arm)
    (if_eq k kind.unknown (span ground.before_sections ground.in_else_arm)
    nowhere)

unfoldable pub stands_in : ℕ → Range ℕ
stands_in k =
    if_eq k kind.edge (span ground.before_sections ground.data_section)
    (if_lt k kind.section_data (statement_in k)
    (if_lt k kind.export (span ground.before_sections ground.data_section)
    (if_eq k kind.export (span ground.functions_section ground.data_section)
    (if_eq k kind.align (span ground.functions_section ground.group)
    (if_lt k kind.group (span ground.data_section ground.group)
    (if_eq k kind.group (only ground.data_section)
    (if_eq k kind.end_group (only ground.group)
    (if_eq k kind.import_line (only ground.functions_section)
    (refused_in k)))))))))

-- "Statements are `function` to `end function`. An `else if..` line is two statements"
unfoldable pub rows_of : ℕ → ℕ
rows_of k = if_eq k kind.edge 0 (if_eq k kind.else_if 2 (if_lt k kind.section_data 1 0))

-- a function, a block, a test's arm and an else's arm are open behind their row
unfoldable pub enters : ℕ → Bool
enters k = if_eq k kind.function true (if_eq k kind.block true (if_lt k kind.ifeq false (if_lt k kind.else_if true false)))

-- ends, and what changes an arm, close what is open before them
unfoldable pub leaves : ℕ → Bool
leaves k = if_eq k kind.end_function true (if_eq k kind.end_block true (if_lt k kind.else false (if_lt k kind.past_rows true false)))

-- the ground behind a row of this kind that is open; that before all sections for no such row
unfoldable pub ground_of : ℕ → ℕ
ground_of k =
    if_eq k kind.function ground.in_function
    (if_eq k kind.block ground.in_block
    (if_lt k kind.ifeq ground.before_sections
    (if_lt k kind.else ground.in_test_arm
    (if_eq k kind.else ground.in_else_arm
    ground.before_sections))))

-- a function or a block: a frame, in which locals live
unfoldable pub is_frame : ℕ → Bool
is_frame k = if_eq k kind.function true (if_eq k kind.block true false)

-- the kind of a line by the number of its magic word, where that alone decides; `set`, `else`, `end` and `section` look on. From 0:
-- no word, section, import, export, align, byte, word, string, group, function, block, end, else, if, call, goto, let, return,
-- set, set-byte, set-word, tail-call, the five save- and restore- words, the six tests
abbrev pub word_kinds : List ℕ
word_kinds =
    kind.unknown ∷
    kind.unknown ∷
    kind.import_line ∷
    kind.export ∷
    kind.align ∷
    kind.byte ∷
    kind.word ∷
    kind.string ∷
    kind.group ∷
    kind.function ∷
    kind.block ∷
    kind.unknown ∷
    kind.else ∷
    kind.unknown ∷
    kind.call ∷
    kind.goto ∷
    kind.let_local ∷
    kind.return ∷
    kind.set ∷
    kind.set_byte ∷
    kind.set_word ∷
    kind.tail_call ∷
    kind.left_out ∷
    kind.left_out ∷
    kind.left_out ∷
    kind.left_out ∷
    kind.left_out ∷
    kind.ifeq ∷
    kind.ifge ∷
    kind.ifgt ∷
    kind.ifle ∷
    kind.iflt ∷
    kind.ifne ∷
    []

-- operators and other names start no line
unfoldable pub kind_of_word : ℕ → ℕ
kind_of_word w = get_or word_kinds w kind.unknown
