-- "The reader accepts exactly the files whose tables meet the rules of 01 on nesting [..], names [..], exports, frames, `goto` and calls (to
-- labels), counts and limits (imports against the host's list)" (02, 7): the rules are `well_formed` of crate prog_tables.
-- Assumes nothing.
use Rattle.std.specs.Prelude.{Bool, List, ℕ}
use Rattle.base_limits.specs.declared.Width.TheVariants.{Bits32}
use Rattle.prog_tables.specs.Tests.{both}
use Rattle.prog_tables.specs.Program.{Program, program_from}
use Rattle.prog_tables.specs.WellFormed.{well_formed}
use Rattle.prog_tables.specs.Hosts.{Hosts, hosted}
use Rattle.file_codec.specs.Tables.{tables_in}

-- a program meets the rules, and its imports are those of the host's list
unfoldable pub good_for : Hosts → Program → Bool
good_for h p = both (well_formed p) (hosted h p)

-- the program that a file's tables hold
abbrev pub program_in : List ℕ → Program
program_in b = program_from Bits32 (tables_in b)
