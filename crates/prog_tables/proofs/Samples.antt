-- Tables written row by row, for examples.
-- Assumes nothing.
use Prim.Native.Nat.{ℕ, zero, suc}
use mathlib.Core.List.{List, [], ◌∷◌, ◌++◌}
use lib.ListN.{length}
use Rattle.base_limits.specs.Limits.{name_bytes}
use Rattle.prog_tables.specs.Layout.{statement_row, label_row}
use Rattle.prog_tables.specs.Label.{Tables}

-- so many words, zeros behind those given
abbrev pub padded : ℕ → List ℕ → List ℕ
padded zero xs = []
padded (suc n) [] = 0 ∷ padded n []
padded (suc n) (x ∷ xs) = x ∷ padded n xs

-- rows of so many words
abbrev pub table_of : ℕ → List (List ℕ) → List ℕ
table_of n [] = []
table_of n (r ∷ rs) = padded n r ++ table_of n rs

-- statement rows, label rows, names, bytes of data
abbrev pub program : List (List ℕ) → List (List ℕ) → List (List ℕ) → ℕ → Tables
program rs ls ns d =
    record {
      statements = table_of statement_row rs;
      count = length rs;
      labels = table_of label_row ls;
      label_count = length ls;
      names = table_of name_bytes ns;
      data_length = d;
    }
