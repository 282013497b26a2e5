-- The words of a label row of the outline, between the parser and the resolver: its token, its kind, and what it names,
-- in data the token of the magic word, else the outline's row.
-- Assumes nothing.
use Rattle.std.specs.Prelude.{ℕ}

abbrev pub token : ℕ
token = 0

abbrev pub kind : ℕ
kind = 1

abbrev pub names : ℕ
names = 2
