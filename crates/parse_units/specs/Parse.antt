-- The stage as a whole: unit after unit; the first one with a fault decides.
-- Assumes nothing.
use Rattle.std.specs.Prelude.{ℕ, zero, suc, ◌+◌, ◌-◌, List, [], ◌∷◌, length}
use Rattle.base_prelude.specs.Choice.{if_lt, if_eq}
use Rattle.base_prelude.specs.Fault.{none, key_number, key_place}
use Rattle.base_prelude.specs.Lists.{zeros}
use Rattle.base_prelude.specs.Walk.{Step, go, stop, walk}
use Rattle.base_limits.specs.declared.Width.{Width}
use Rattle.lang_kinds.specs.Kinds as kind
use Rattle.lang_kinds.specs.Grounds as ground
use Rattle.lang_kinds.specs.Nesting.{rows_of, kind_of_word}
use Rattle.parse_lines.specs.Tokens.{word_at}
use Rattle.parse_lines.specs.Units.{unit_at}
use Rattle.parse_lines.specs.Lines.{line_kind}
use Rattle.parse_shapes.specs.Shapes.{operand_count}
use Rattle.parse_lines.specs.declared.Span.{Span}
use Rattle.parse_rules.specs.Rules.{labels_rule}
use Rattle.parse_units.specs.Outline.{outline_words, row_at, put_row, row_in, behind}
use Rattle.parse_units.specs.Places.{ground_in, line_on, import_labels, unit_fault}
use Rattle.parse_units.specs.declared.Row.{Row}
use Rattle.parse_units.specs.declared.State.{State}
use Rattle.std.specs.declared.ops.ControlFlow.{ControlFlow}
use Rattle.std.specs.declared.ops.ControlFlow.TheVariants.{Continue, Break}
use Rattle.parse_units.specs.Verdict.{Verdict, accepted, refused}

-- the state between two units, and the outline so far
pub record World : Type 0 where
  pub state : State
  pub table : List ℕ

abbrev pub world : State → List ℕ → World
world s t = record { state = s; table = t }

-- the first row that is free, and the row that is open, behind one row more
unfoldable pub put_state : State → ℕ → Row → State
put_state s n r =
    record { at = s.at; count = n + 1; top = behind n r; section = s.section; locals = s.locals; depth = s.depth; labels = s.labels }

unfoldable pub put_kind : ℕ → ℕ → ℕ → ℕ → World → World
put_kind k token next operands x =
    world
    (put_state x.state x.state.count (row_in k x.state.count x.state.top (row_at x.table x.state.top) token next x.state.locals operands))
    (put_row x.table x.state.count (row_in k x.state.count x.state.top (row_at x.table x.state.top) token next x.state.locals operands))

-- "An `else if..` line is two statements: a jump to `end if`, then the test"
unfoldable pub grow_two : List ℕ → Span → ℕ → World → World
grow_two t u k x = put_kind (kind_of_word (word_at t (u.word + 1))) (u.word + 1) u.next 2 (put_kind k u.word (u.word + 1) 0 x)

unfoldable pub grow_by : ℕ → List ℕ → Span → ℕ → World → World
grow_by m t u k x = if_eq m 0 x (if_eq m 1 (put_kind k u.word u.next (operand_count u) x) (grow_two t u k x))

-- locals in scope behind a line: a function has its parameters, a let adds one, an `end block` takes its block's off
unfoldable pub locals_behind : ℕ → ℕ → ℕ → ℕ → ℕ
locals_behind k operands before locals = if_eq k kind.function operands (if_eq k kind.let_local (locals + 1) (if_eq k kind.end_block before locals))

unfoldable pub depth_behind : ℕ → ℕ → ℕ
depth_behind k depth = if_eq k kind.function 0 (if_eq k kind.block (depth + 1) (if_eq k kind.end_block (depth - 1) depth))

-- the section, or the group in data, as a ground
unfoldable pub section_behind : ℕ → ℕ → ℕ
section_behind k section =
    if_eq k kind.section_data ground.data_section
    (if_eq k kind.section_functions ground.functions_section
    (if_eq k kind.group ground.group
    (if_eq k kind.end_group ground.data_section
    section)))

-- the state behind a unit: a total function of the state and the magic word (for `end` and the like also the word behind it),
-- whether a rule finds a fault or not
unfoldable pub state_behind : List ℕ → ℕ → Span → ℕ → Row → State → State
state_behind t n u k o s =
    record {
      at = u.next;
      count = s.count;
      top = s.top;
      section = section_behind k s.section;
      locals = locals_behind k (operand_count u) o.before s.locals;
      depth = depth_behind k s.depth;
      labels = (labels_rule t n u s.labels).count + import_labels t u k;
    }

-- rows are made in the state before the line, and only the open row and the count go on
unfoldable pub join_state : State → State → State
join_state s r =
    record { at = s.at; count = r.count; top = r.top; section = s.section; locals = s.locals; depth = s.depth; labels = s.labels }

unfoldable pub advance : List ℕ → ℕ → Span → ℕ → World → World
advance t n u k x =
    world
    (join_state (state_behind t n u k (row_at x.table x.state.top) x.state) (grow_by (rows_of k) t u k x).state)
    (grow_by (rows_of k) t u k x).table

-- an answer: rows up to the first free one and labels, or the key of a fault
pub record Result : Type 0 where
  pub verdict : Verdict
  pub outline : List ℕ

abbrev pub parse_result : Verdict → List ℕ → Result
parse_result v t = record { verdict = v; outline = t }

-- what one step of the code's loop comes to
abbrev pub stepped : ControlFlow Verdict State → List ℕ → Step World Result
stepped (Continue s) t = go (world s t)
stepped (Break v) t = stop (parse_result v t)

unfoldable pub open_row : World → Row
open_row x = row_at x.table x.state.top

unfoldable pub fault_in : Width → List ℕ → ℕ → Span → World → ℕ
fault_in w t n u x =
    unit_fault w t n u (line_on (ground_in x.state (open_row x)) (line_kind t u.word)) (ground_in x.state (open_row x)) x.state

-- the unit at the state's token: refused, the end, or on to the next
unfoldable pub unit_step_on : Width → List ℕ → ℕ → Span → World → Step World Result
unit_step_on w t n u x =
    if_lt (fault_in w t n u x) none (stop (parse_result (refused (fault_in w t n u x)) x.table))
    (if_eq (line_kind t u.word) kind.edge (stop (parse_result (accepted x.state.count x.state.labels) x.table))
    (go (advance t n u (line_kind t u.word) x)))

unfoldable pub unit_step : Width → List ℕ → ℕ → World → Step World Result
unit_step w t n x = unit_step_on w t n (unit_at t x.state.at) x

-- before the first unit
abbrev pub begin : State
begin = record { at = 0; count = 1; top = 0; section = ground.before_sections; locals = 0; depth = 0; labels = 0 }

unfoldable pub parse_from : Width → List ℕ → ℕ → World → Result
parse_from w t n x = walk (unit_step w t n) (parse_result (refused none) []) (suc (length t)) x

-- the tokens t of a source of n bytes
unfoldable pub parse_of : Width → List ℕ → ℕ → Result
parse_of w t n = parse_from w t n (world begin (zeros outline_words))
