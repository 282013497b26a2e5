-- The rules of 'Tokens to statements' that look at the state: where a line stands, what its labels may name, and limits.
-- Assumes nothing.
use Rattle.std.specs.Prelude.{ℕ, ◌+◌, ◌-◌, min, Bool, true, false, List, [], ◌∷◌}
use Rattle.base_prelude.specs.Choice.{if_lt, if_eq, if_true}
use Rattle.base_prelude.specs.Fault.{none, least_of}
use Rattle.base_prelude.specs.Lists.{is_among}
use Rattle.base_limits.specs.declared.Width.{Width}
use Rattle.base_limits.specs.Limits as limits
use Rattle.lang_kinds.specs.Kinds as kind
use Rattle.lang_kinds.specs.Grounds as ground
use Rattle.lang_kinds.specs.Tokens as token
use Rattle.lang_words.specs.Numbers as word
use Rattle.lang_kinds.specs.Nesting.{rows_of, ground_of}
use Rattle.lang_kinds.specs.Standing.{Ground, BeforeSections, FunctionsSection, DataSection, Group, InFunction, InBlock, InTestArm, InElseArm, NoGround, ground_numbered, stands_on}
use Rattle.parse_lines.specs.Tokens.{kind_at, word_at, host_at, key_at}
use Rattle.parse_lines.specs.declared.Span.{Span}
use Rattle.parse_shapes.specs.Shapes.{is_name}
use Rattle.parse_rules.specs.Rules.{shape_rule, left_rule, tokens_rule, list_rule, label_limit, labels_rule}
use Rattle.parse_units.specs.Outline.{row_at}
use Rattle.parse_units.specs.declared.Row.{Row}
use Rattle.parse_units.specs.declared.State.{State}

-- the ground on which the next line stands: that of the open row, or the section's
unfoldable pub ground_in : State → Row → ℕ
ground_in s o = if_eq s.top 0 s.section (ground_of o.kind)

-- the kind of a line on a ground: "`import` between functions is taken", "9 no longer for that `import`"; elsewhere it is left out
unfoldable pub line_on : ℕ → ℕ → ℕ
line_on g k = if_eq k kind.import_line (if_eq g ground.functions_section k kind.left_out) k

-- "A label names a data definition, group or `align` in data"
abbrev pub data_words : List ℕ
data_words = word.byte ∷ word.word ∷ word.string ∷ word.group ∷ word.align ∷ []

-- "a function in functions"
abbrev pub function_words : List ℕ
function_words = word.function ∷ []

-- "or a statement inside a function, `end` and `else` lines included, however its line goes on"
abbrev pub statement_words : List ℕ
statement_words =
    word.function ∷
    word.block ∷
    word.end ∷
    word.else ∷
    word.call ∷
    word.goto ∷
    word.let_local ∷
    word.return ∷
    word.set ∷
    word.set_byte ∷
    word.set_word ∷
    word.tail_call ∷
    word.save_frame ∷
    word.save_locals ∷
    word.save_frame_and_locals ∷
    word.restore_frame ∷
    word.restore_locals ∷
    word.ifeq ∷
    word.ifge ∷
    word.ifgt ∷
    word.ifle ∷
    word.iflt ∷
    word.ifne ∷
    []

-- the magic words that labels may stand before, on each ground
unfoldable pub labelled_on : Ground → List ℕ
labelled_on BeforeSections = []
labelled_on FunctionsSection = function_words
labelled_on DataSection = data_words
labelled_on Group = data_words
labelled_on InFunction = statement_words
labelled_on InBlock = statement_words
labelled_on InTestArm = statement_words
labelled_on InElseArm = statement_words
labelled_on NoGround = []

-- labels may stand on the ground g before a token of kind k with the word w: judged by the ground and the magic word alone
unfoldable pub may_label : ℕ → ℕ → ℕ → Bool
may_label g k w = if_eq k token.symbol (is_among w (labelled_on (ground_numbered g))) false

-- 8: "else, or at the source's end, refusal 8 at it": the first of the labels before the line
unfoldable pub label_rule : List ℕ → ℕ → Span → ℕ → ℕ
label_rule t n u g =
    if_eq (kind_at t u.first) token.label
    (if_true (may_label g (kind_at t u.word) (word_at t u.word)) none (key_at t n u.first 8))
    none

-- 8: "not allowed here: magic word"; "8 at source end if something is open"
unfoldable pub place_rule : List ℕ → ℕ → Span → ℕ → ℕ → ℕ
place_rule t n u k g = if_true (stands_on g k) none (key_at t n u.word 8)

-- "Imported names count as labels in the one space": an import of a name that the host lists is a label, at its name
unfoldable pub import_labels : List ℕ → Span → ℕ → ℕ
import_labels t u k = if_eq k kind.import_line (if_true (is_name t (u.word + 1)) (if_eq (host_at t (u.word + 1)) 0 0 1) 0) 0

-- 14 at the name that is the 257th label, c labels standing before it
unfoldable pub import_rule : List ℕ → ℕ → Span → ℕ → ℕ → ℕ
import_rule t n u k c = if_eq (import_labels t u k) 0 none (label_limit t n (u.word + 1) c)

-- 14: "statements 1,024"; row 0 is the edge, so the first free row is at most one more
unfoldable pub room_rule : List ℕ → ℕ → Span → ℕ → ℕ → ℕ
room_rule t n u k count = if_lt (limits.statements + 1 - count) (rows_of k) (key_at t n u.word 14) none

-- 14: "locals in scope 64"
unfoldable pub locals_rule : List ℕ → ℕ → Span → ℕ → ℕ → ℕ
locals_rule t n u k locals = if_eq k kind.let_local (if_lt locals limits.locals none (key_at t n u.word 14)) none

-- 14: "blocks nested 16 deep"
unfoldable pub depth_rule : List ℕ → ℕ → Span → ℕ → ℕ → ℕ
depth_rule t n u k depth = if_eq k kind.block (if_lt depth limits.block_depth none (key_at t n u.word 14)) none

-- what the rules find in a unit of kind k, on a ground, in a state: words, shapes and places, imports
unfoldable pub line_faults : Width → List ℕ → ℕ → Span → ℕ → ℕ → State → List ℕ
line_faults w t n u k g s =
    label_rule t n u g
    ∷ (labels_rule t n u s.labels).fault
    ∷ shape_rule w t n u k
    ∷ place_rule t n u k g
    ∷ left_rule t n u k
    ∷ import_rule t n u k (labels_rule t n u s.labels).count
    ∷ []

-- limits, and the tokens of the line
unfoldable pub limit_faults : List ℕ → ℕ → Span → ℕ → State → List ℕ
limit_faults t n u k s =
    room_rule t n u k s.count
    ∷ locals_rule t n u k s.locals
    ∷ depth_rule t n u k s.depth
    ∷ tokens_rule t n u k
    ∷ list_rule t n u k
    ∷ []

-- the least of all
unfoldable pub unit_fault : Width → List ℕ → ℕ → Span → ℕ → ℕ → State → ℕ
unit_fault w t n u k g s = min (least_of (line_faults w t n u k g s)) (least_of (limit_faults t n u k s))
