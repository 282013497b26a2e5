-- The ground on which a line stands: a section, or with something open what is open innermost.
-- Assumes nothing.
use Rattle.std.specs.Prelude.{ℕ}
use Rattle.lang_kinds.specs.declared.Grounds.{Grounds}

abbrev pub before_sections : ℕ
before_sections = 0

abbrev pub functions_section : ℕ
functions_section = 1

abbrev pub data_section : ℕ
data_section = 2

-- in data
abbrev pub group : ℕ
group = 3

-- the function itself
abbrev pub in_function : ℕ
in_function = 4

abbrev pub in_block : ℕ
in_block = 5

-- an if's arm behind a test
abbrev pub in_test_arm : ℕ
in_test_arm = 6

-- an if's arm behind the bare else
abbrev pub in_else_arm : ℕ
in_else_arm = 7

-- all grounds are below it
abbrev pub past_grounds : ℕ
past_grounds = 8

-- all of them, as `all_grounds` gives them
unfoldable pub grounds_of : Grounds
grounds_of =
    record {
      before_sections = before_sections;
      functions_section = functions_section;
      data_section = data_section;
      group = group;
      in_function = in_function;
      in_block = in_block;
      in_test_arm = in_test_arm;
      in_else_arm = in_else_arm;
      past_grounds = past_grounds;
    }
