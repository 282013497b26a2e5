-- Label rows: four words for each label, in source order: its token, its kind, what it names, 0. An imported name is a label too, at its
-- token; what it names is the mark of the host's entry.
-- Assumes nothing.
use Rattle.std.specs.Prelude.{ℕ, zero, suc, ◌+◌, ◌-◌, ◌*◌, List, [], ◌∷◌, ◌++◌, length, take, drop, Option, Some, None}
use Rattle.base_prelude.specs.Choice.{if_lt, if_eq}
use Rattle.base_prelude.specs.Lists.{zeros}
use Rattle.base_prelude.specs.Walk.{Step, go, stop, walk}
use Rattle.base_limits.specs.Limits as limits
use Rattle.lang_kinds.specs.Kinds as kind
use Rattle.lang_kinds.specs.Grounds as ground
use Rattle.lang_kinds.specs.Tokens as token
use Rattle.prog_tables.specs.Layout.{label_row, label_words, data_label, function_label, place_label, import_label}
use Rattle.lang_kinds.specs.Nesting.{rows_of}
use Rattle.parse_lines.specs.Tokens.{kind_at, host_at}
use Rattle.parse_lines.specs.Units.{unit_at}
use Rattle.parse_lines.specs.Lines.{line_kind}
use Rattle.parse_lines.specs.declared.Span.{Span}
use Rattle.parse_units.specs.Places.{import_labels}
use Rattle.parse_units.specs.Parse.{section_behind}
use Rattle.parse_outline.specs.declared.Marks.{Marks}

-- data, function or place: by the section, and whether the line is a function
unfoldable pub label_kind : ℕ → ℕ → ℕ
label_kind k section = if_lt section ground.data_section (if_eq k kind.function function_label place_label) data_label

-- in data the magic word's token, else the row that the line makes first
unfoldable pub label_number : ℕ → ℕ → ℕ → ℕ
label_number section word row = if_lt section ground.data_section row word

-- label row c
unfoldable pub put_label : List ℕ → ℕ → ℕ → ℕ → ℕ → List ℕ
put_label x c token kind number = if_lt c limits.labels (take (c * label_row) x ++ (token ∷ kind ∷ number ∷ 0 ∷ []) ++ drop (c * label_row + label_row) x) x

-- labels so far, and their rows
pub record Marked : Type 0 where
  pub count : ℕ
  pub table : List ℕ

abbrev pub marked : ℕ → List ℕ → Marked
marked c x = record { count = c; table = x }

-- a token before the magic word: a label, or a newline
unfoldable pub mark_token : List ℕ → ℕ → ℕ → ℕ → Marked → Marked
mark_token t i kind number m =
    if_eq (kind_at t i) token.label (marked (m.count + 1) (put_label m.table m.count i kind number)) m

unfoldable pub mark_from : ℕ → List ℕ → ℕ → ℕ → ℕ → Marked → Marked
mark_from zero t i kind number m = m
mark_from (suc left) t i kind number m = mark_from left t (i + 1) kind number (mark_token t i kind number m)

-- the labels before a line
unfoldable pub mark_before : List ℕ → Span → ℕ → Marks → List ℕ → Marked
mark_before t u k s x =
    mark_from (u.word - u.first) t u.first (label_kind k s.section) (label_number s.section u.word s.row) (marked s.labels x)

-- the label that an import of a listed name is
unfoldable pub mark_import : List ℕ → Span → ℕ → Marked → Marked
mark_import t u k m =
    if_eq (import_labels t u k) 0 m (marked (m.count + 1) (put_label m.table m.count (u.word + 1) import_label (host_at t (u.word + 1))))

-- the labels of a unit
unfoldable pub mark_unit : List ℕ → Span → ℕ → Marks → List ℕ → Marked
mark_unit t u k s x = mark_import t u k (mark_before t u k s x)

pub record Marking : Type 0 where
  pub state : Marks
  pub table : List ℕ

abbrev pub marking : Marks → List ℕ → Marking
marking s x = record { state = s; table = x }

unfoldable pub marks_behind : Span → ℕ → Marks → ℕ → Marks
marks_behind u k s labels = record { at = u.next; row = s.row + rows_of k; section = section_behind k s.section; labels = labels }

unfoldable pub mark_on : List ℕ → Span → ℕ → Marking → Step Marking (List ℕ)
mark_on t u k m =
    if_eq k kind.edge (stop (mark_unit t u k m.state m.table).table)
    (go (marking (marks_behind u k m.state (mark_unit t u k m.state m.table).count) (mark_unit t u k m.state m.table).table))

-- unit after unit, to the source's end
unfoldable pub mark_step : List ℕ → Marking → Step Marking (List ℕ)
mark_step t m = mark_on t (unit_at t m.state.at) (line_kind t (unit_at t m.state.at).word) m

-- what one step of the code's loop comes to
abbrev pub going : Option Marks → List ℕ → Step Marking (List ℕ)
going (Some s) x = go (marking s x)
going None x = stop x

unfoldable pub marks_from : List ℕ → Marking → List ℕ
marks_from t m = walk (mark_step t) [] (suc (length t)) m

abbrev pub first_marks : Marks
first_marks = record { at = 0; row = 1; section = ground.before_sections; labels = 0 }

-- the label rows of the tokens t
unfoldable pub label_rows : List ℕ → List ℕ
label_rows t = marks_from t (marking first_marks (zeros label_words))
