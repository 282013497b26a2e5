-- The lines of a source, and what stands before each: the statements, labels, open blocks and locals there, and the ground. All are
-- functions of the lines before, the latest first.
-- Assumes nothing.
use Rattle.std.specs.Prelude.{ℕ, zero, suc, ◌+◌, ◌-◌, List, [], ◌∷◌, ◌++◌, length}
use Rattle.base_prelude.specs.Choice.{if_eq, if_true}
use Rattle.lang_kinds.specs.Kinds as kind
use Rattle.lang_kinds.specs.Grounds as ground
use Rattle.lang_kinds.specs.Tokens as token
use Rattle.lang_kinds.specs.Nesting.{rows_of, enters, leaves, ground_of, kind_of_word}
use Rattle.parse_lines.specs.Tokens.{kind_at, word_at}
use Rattle.parse_lines.specs.Units.{unit_at}
use Rattle.parse_lines.specs.Lines.{line_kind}
use Rattle.parse_lines.specs.declared.Span.{Span}
use Rattle.parse_shapes.specs.Shapes.{operand_count}
use Rattle.parse_units.specs.Places.{line_on, import_labels}

-- ---- lines

-- a line with the labels before it, and its kind
pub record Line : Type 0 where
  pub unit : Span
  pub kind : ℕ

-- the line of the first unit from a token on
unfoldable pub line_from : List ℕ → ℕ → Line
line_from t at = record { unit = unit_at t at; kind = line_kind t (unit_at t at).word }

-- at most so many lines from a token on; the source's end is the last
unfoldable pub lines_from : ℕ → List ℕ → ℕ → List Line
lines_from zero t at = []
lines_from (suc left) t at = line_from t at ∷ if_eq (line_from t at).kind kind.edge [] (lines_from left t (line_from t at).unit.next)

unfoldable pub lines_of : List ℕ → List Line
lines_of t = lines_from (suc (length t)) t 0

-- what holds of each line and the lines before it
abbrev pub EachFrom : (List Line → Line → Type 0) → List Line → List Line → Type 0
EachFrom P before [] = Unit {0}
EachFrom P before (x ∷ xs) = P before x × EachFrom P (x ∷ before) xs

abbrev pub EachLine : List ℕ → (List Line → Line → Type 0) → Type 0
EachLine t P = EachFrom P [] (lines_of t)

-- ---- statements and labels

-- "Statements are `function` to `end function`. An `else if..` line is two statements": their kinds
unfoldable pub statement_kinds : List ℕ → Line → List ℕ
statement_kinds t x =
    if_eq (rows_of x.kind) 0 []
    (if_eq (rows_of x.kind) 1 (x.kind ∷ [])
    (x.kind ∷ kind_of_word (word_at t (x.unit.word + 1)) ∷ []))

unfoldable pub statements_before : List Line → ℕ
statements_before [] = 0
statements_before (x ∷ before) = statements_before before + rows_of x.kind

-- the labels among so many tokens from token i on
unfoldable pub labels_among : ℕ → List ℕ → ℕ → ℕ
labels_among zero t i = 0
labels_among (suc left) t i = if_eq (kind_at t i) token.label (suc (labels_among left t (i + 1))) (labels_among left t (i + 1))

-- the labels before a line's magic word
unfoldable pub labels_on : List ℕ → Line → ℕ
labels_on t x = labels_among (x.unit.word - x.unit.first) t x.unit.first

-- with the name of an import that the host lists: "Imported names count as labels in the one space" (02, 3)
unfoldable pub label_count : List ℕ → Line → ℕ
label_count t x = labels_on t x + import_labels t x.unit x.kind

unfoldable pub labels_before : List ℕ → List Line → ℕ
labels_before t [] = 0
labels_before t (x ∷ before) = labels_before t before + label_count t x

-- ---- what is open

-- a function, a block, or an `if` behind a test or a bare `else`: its ground, and the locals that are its own
pub record Level : Type 0 where
  pub ground : ℕ
  pub locals : ℕ

abbrev pub level : ℕ → ℕ → Level
level g n = record { ground = g; locals = n }

-- without the innermost
unfoldable pub outer : List Level → List Level
outer [] = []
outer (o ∷ os) = os

-- one local more in the innermost
unfoldable pub with_local : List Level → List Level
with_local [] = []
with_local (o ∷ os) = level o.ground (suc o.locals) ∷ os

-- behind a statement of kind k of a line with n operand tokens: an `end` closes the innermost, `else` too; what is opened has a
-- function's parameters as locals, or none
unfoldable pub closed_by : ℕ → List Level → List Level
closed_by k os = if_true (leaves k) (outer os) os

unfoldable pub opened_by : ℕ → ℕ → List Level → List Level
opened_by k n os =
    if_true (enters k) (level (ground_of k) (if_eq k kind.function n 0) ∷ closed_by k os)
    (if_eq k kind.let_local (with_local os)
    (closed_by k os))

unfoldable pub opened_by_all : ℕ → List ℕ → List Level → List Level
opened_by_all n [] os = os
opened_by_all n (k ∷ ks) os = opened_by_all n ks (opened_by k n os)

-- innermost first
unfoldable pub open_before : List ℕ → List Line → List Level
open_before t [] = []
open_before t (x ∷ before) = opened_by_all (operand_count x.unit) (statement_kinds t x) (open_before t before)

-- "locals in scope .., parameters and shadowed ones included"
unfoldable pub locals_in : List Level → ℕ
locals_in [] = 0
locals_in (o ∷ os) = o.locals + locals_in os

-- "blocks nested"
unfoldable pub blocks_in : List Level → ℕ
blocks_in [] = 0
blocks_in (o ∷ os) = if_eq o.ground ground.in_block (suc (blocks_in os)) (blocks_in os)

-- ---- the ground

-- the section, or the group in data
unfoldable pub section_before : List Line → ℕ
section_before [] = ground.before_sections
section_before (x ∷ before) =
    if_eq x.kind kind.section_data ground.data_section
    (if_eq x.kind kind.section_functions ground.functions_section
    (if_eq x.kind kind.group ground.group
    (if_eq x.kind kind.end_group ground.data_section
    (section_before before))))

-- what is open innermost, or the section
unfoldable pub ground_among : ℕ → List Level → ℕ
ground_among section [] = section
ground_among section (o ∷ os) = o.ground

unfoldable pub ground_before : List ℕ → List Line → ℕ
ground_before t before = ground_among (section_before before) (open_before t before)

-- the kind of a line where it stands: an `import` elsewhere than between functions is left out
abbrev pub kind_on : List ℕ → List Line → Line → ℕ
kind_on t before x = line_on (ground_before t before) x.kind
