-- The tables of a program: sizes, and the numbers that stand in rows. docs/TABLES.md says each word. The kinds of statement rows
-- are those of crate lang_kinds, 1 to 22.
-- Assumes nothing.
use Rattle.std.specs.Prelude.{◌≡◌, refl, ℕ, ◌*◌}
use Rattle.base_limits.specs.Limits.{statements, labels, name_bytes, parameters}
use Rattle.lang_words.specs.Numbers as op
use Rattle.prog_tables.specs.StatementRow as row
use Rattle.prog_tables.specs.LabelRow as label
use Rattle.prog_tables.specs.OutlineLabel as outline
use Rattle.prog_tables.specs.declared.Sizes.{Sizes}
use Rattle.prog_tables.specs.declared.Numbers.{Numbers}

-- words of a statement row
abbrev pub statement_row : ℕ
statement_row = 27

-- words of the statement table: a row for each statement
abbrev pub statement_words : ℕ
statement_words = 27648

-- operands of a row, its address operand aside
abbrev pub operand_slots : ℕ
operand_slots = 8

-- words of a label row
abbrev pub label_row : ℕ
label_row = 4

-- words of the label table: a row for each label
abbrev pub label_words : ℕ
label_words = 1024

-- bytes of the name table, which stands beside the label table: as many for each label as a name may have
abbrev pub name_table : ℕ
name_table = 16384

-- words of an entry of the host's list
abbrev pub host_row : ℕ
host_row = 2

-- entries of the host's list that are looked at
abbrev pub host_entries : ℕ
host_entries = 268435456

-- a slot for each argument
pub slot-each : operand_slots ≡ parameters
slot-each = refl

pub statement-size : statement_words ≡ statements * statement_row
statement-size = refl

pub label-size : label_words ≡ labels * label_row
label-size = refl

pub name-size : name_table ≡ labels * name_bytes
name-size = refl

-- all of them, as `all_sizes` gives them
unfoldable pub sizes_of : Sizes
sizes_of =
    record {
      statement_row = statement_row;
      statement_words = statement_words;
      operand_slots = operand_slots;
      label_row = label_row;
      label_words = label_words;
      name_table = name_table;
      host_row = host_row;
      host_entries = host_entries;
    }

-- frame words before the parameters: "place to return to, start of the caller's frame [..], auto top at entry"
abbrev pub frame_head : ℕ
frame_head = 3

-- expression kinds: none, one operand alone, a call of a function, a call of an imported function; an operator has its number in the
-- word list
abbrev pub no_expression : ℕ
no_expression = 0

abbrev pub plain : ℕ
plain = 1

abbrev pub call_expression : ℕ
call_expression = 2

abbrev pub import_expression : ℕ
import_expression = 3

abbrev pub first_operator : ℕ
first_operator = op.add

abbrev pub last_operator : ℕ
last_operator = op.xor

-- operand kinds; each has its `@` form
abbrev pub no_operand : ℕ
no_operand = 0

abbrev pub constant_operand : ℕ
constant_operand = 1

-- a local's frame word
abbrev pub local_operand : ℕ
local_operand = 2

-- a data label's address
abbrev pub address_operand : ℕ
address_operand = 3

abbrev pub at_constant : ℕ
at_constant = 4

abbrev pub at_local : ℕ
at_local = 5

abbrev pub at_address : ℕ
at_address = 6

-- label kinds
abbrev pub data_label : ℕ
data_label = 1

abbrev pub exported_data : ℕ
exported_data = 2

abbrev pub function_label : ℕ
function_label = 3

abbrev pub exported_function : ℕ
exported_function = 4

abbrev pub place_label : ℕ
place_label = 5

abbrev pub import_label : ℕ
import_label = 6

-- the words of rows and the numbers above, as `all_numbers` gives them
unfoldable pub numbers_of : Numbers
numbers_of =
    record {
      frame_head = frame_head;
      row_kind = row.kind;
      row_func = row.func;
      row_scope = row.scope;
      row_up = row.up;
      row_a = row.a;
      row_b = row.b;
      row_expr = row.expr;
      row_callee = row.callee;
      row_count = row.count;
      row_address = row.address;
      row_operands = row.operands;
      row_second = row.second;
      row_third = row.third;
      row_token = row.token;
      row_next = row.next;
      label_kind = label.kind;
      label_number = label.number;
      label_arguments = label.arguments;
      label_size = label.size;
      outline_token = outline.token;
      outline_kind = outline.kind;
      outline_names = outline.names;
      no_expression = no_expression;
      plain = plain;
      call_expression = call_expression;
      import_expression = import_expression;
      first_operator = first_operator;
      last_operator = last_operator;
      no_operand = no_operand;
      constant_operand = constant_operand;
      local_operand = local_operand;
      address_operand = address_operand;
      at_constant = at_constant;
      at_local = at_local;
      at_address = at_address;
      data_label = data_label;
      exported_data = exported_data;
      function_label = function_label;
      exported_function = exported_function;
      place_label = place_label;
      import_label = import_label;
    }
