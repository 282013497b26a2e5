-- Kinds of lines and of statement rows, one numbering for both: a line has the kind of the first row it makes.
-- Assumes nothing.
use Rattle.std.specs.Prelude.{ℕ}
use Rattle.lang_kinds.specs.declared.Kinds.{Kinds}

-- no row: the edge around all functions, and the source's end
abbrev pub edge : ℕ
edge = 0

abbrev pub function : ℕ
function = 1

abbrev pub end_function : ℕ
end_function = 2

abbrev pub block : ℕ
block = 3

abbrev pub end_block : ℕ
end_block = 4

abbrev pub let_local : ℕ
let_local = 5

-- of a local
abbrev pub set : ℕ
set = 6

-- of the word at an address
abbrev pub set_at : ℕ
set_at = 7

abbrev pub set_byte : ℕ
set_byte = 8

abbrev pub set_word : ℕ
set_word = 9

abbrev pub goto : ℕ
goto = 10

abbrev pub call : ℕ
call = 11

abbrev pub tail_call : ℕ
tail_call = 12

abbrev pub return : ℕ
return = 13

-- the six tests
abbrev pub ifeq : ℕ
ifeq = 14

abbrev pub ifge : ℕ
ifge = 15

abbrev pub ifgt : ℕ
ifgt = 16

abbrev pub ifle : ℕ
ifle = 17

abbrev pub iflt : ℕ
iflt = 18

abbrev pub ifne : ℕ
ifne = 19

-- bare
abbrev pub else : ℕ
else = 20

-- the jump of an `else if..` line; the line's second row is a test
abbrev pub else_if : ℕ
else_if = 21

abbrev pub end_if : ℕ
end_if = 22

-- the kinds of rows are below it
abbrev pub past_rows : ℕ
past_rows = 23

-- lines that make no row; 23 and 24 are kept free
abbrev pub section_data : ℕ
section_data = 25

abbrev pub section_functions : ℕ
section_functions = 26

abbrev pub export : ℕ
export = 27

abbrev pub align : ℕ
align = 28

abbrev pub byte : ℕ
byte = 29

abbrev pub word : ℕ
word = 30

abbrev pub string : ℕ
string = 31

abbrev pub group : ℕ
group = 32

abbrev pub end_group : ℕ
end_group = 33

-- refusal 9 in any shape
abbrev pub left_out : ℕ
left_out = 34

-- no incantation starts so: refusal 7
abbrev pub unknown : ℕ
unknown = 35

-- an `import`; only between functions is it taken, else it is left out
abbrev pub import_line : ℕ
import_line = 36

-- all of them, as `all_kinds` gives them
unfoldable pub kinds_of : Kinds
kinds_of =
    record {
      edge = edge;
      function = function;
      end_function = end_function;
      block = block;
      end_block = end_block;
      let_line = let_local;
      set = set;
      set_at = set_at;
      set_byte = set_byte;
      set_word = set_word;
      goto = goto;
      call = call;
      tail_call = tail_call;
      return_line = return;
      ifeq = ifeq;
      ifge = ifge;
      ifgt = ifgt;
      ifle = ifle;
      iflt = iflt;
      ifne = ifne;
      else_line = else;
      else_if = else_if;
      end_if = end_if;
      past_rows = past_rows;
      section_data = section_data;
      section_functions = section_functions;
      export = export;
      align = align;
      byte = byte;
      word = word;
      string = string;
      group = group;
      end_group = end_group;
      left_out = left_out;
      unknown = unknown;
      import_line = import_line;
    }
