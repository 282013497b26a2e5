-- The words of a label row.
-- Assumes nothing.
use Rattle.std.specs.Prelude.{ℕ}

abbrev pub kind : ℕ
kind = 0

-- the address of data, the number of an imported name, else the statement
abbrev pub number : ℕ
number = 1

-- arguments of an imported function; 0 in accepted tables else
abbrev pub arguments : ℕ
arguments = 2

-- bytes of the name
abbrev pub size : ℕ
size = 3
