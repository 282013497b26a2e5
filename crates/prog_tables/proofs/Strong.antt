-- How strong `well_formed` is: three good tables pass, and tables with one wrong word do not.
-- Assumes nothing.
use mathlib.Core.Path.{◌≡◌, refl}
use mathlib.Core.Bool.{true, false}
use mathlib.Core.List.{List, [], ◌∷◌, ◌++◌}
use Prim.Native.Nat.{ℕ, ◌+◌, ◌*◌}
use lib.ListN.{set, replicate}
use Rattle.base_limits.specs.declared.Width.TheVariants.{Bits32}
use Rattle.prog_tables.specs.Layout.{statement_row, label_row}
use Rattle.prog_tables.specs.Label.{Tables}
use Rattle.prog_tables.specs.Program.{Program, program_from}
use Rattle.prog_tables.specs.Faults.{tables_fault}
use Rattle.prog_tables.specs.WellFormed.{well_formed}
use Rattle.prog_tables.specs.Canonical.{canonical}
use Rattle.prog_tables.proofs.Opened.{opened}

-- 01, case 1
abbrev pub page-rows : List ℕ
page-rows =
    1 ∷ 0 ∷ 0 ∷ 0 ∷ 6 ∷ 1 ∷ 0 ∷ 0 ∷ 0 ∷ 0 ∷ 0 ∷ 0 ∷ 0 ∷ 0 ∷ 0 ∷ 0 ∷ 0 ∷ 0 ∷ 0 ∷ 0 ∷ 0 ∷ 0 ∷ 0 ∷ 0 ∷ 0 ∷ 0 ∷ 0 ∷  -- 0 function a
    3 ∷ 0 ∷ 0 ∷ 1 ∷ 4 ∷ 1 ∷ 0 ∷ 1 ∷ 0 ∷ 0 ∷ 0 ∷ 0 ∷ 0 ∷ 0 ∷ 0 ∷ 0 ∷ 0 ∷ 0 ∷ 0 ∷ 0 ∷ 0 ∷ 0 ∷ 0 ∷ 0 ∷ 0 ∷ 0 ∷ 0 ∷  -- 1 block
    5 ∷ 0 ∷ 1 ∷ 2 ∷ 5 ∷ 0 ∷ 33 ∷ 0 ∷ 2 ∷ 0 ∷ 0 ∷ 2 ∷ 3 ∷ 6 ∷ 0 ∷ 0 ∷ 0 ∷ 0 ∷ 0 ∷ 0 ∷ 0 ∷ 0 ∷ 0 ∷ 0 ∷ 0 ∷ 0 ∷ 0 ∷  -- 2 let b add a @stock
    13 ∷ 0 ∷ 1 ∷ 2 ∷ 0 ∷ 0 ∷ 1 ∷ 0 ∷ 1 ∷ 0 ∷ 0 ∷ 2 ∷ 5 ∷ 0 ∷ 0 ∷ 0 ∷ 0 ∷ 0 ∷ 0 ∷ 0 ∷ 0 ∷ 0 ∷ 0 ∷ 0 ∷ 0 ∷ 0 ∷ 0 ∷  -- 3 return b
    4 ∷ 0 ∷ 1 ∷ 1 ∷ 4 ∷ 0 ∷ 0 ∷ 0 ∷ 0 ∷ 0 ∷ 0 ∷ 0 ∷ 0 ∷ 0 ∷ 0 ∷ 0 ∷ 0 ∷ 0 ∷ 0 ∷ 0 ∷ 0 ∷ 0 ∷ 0 ∷ 0 ∷ 0 ∷ 0 ∷ 0 ∷  -- 4 end block
    2 ∷ 0 ∷ 0 ∷ 0 ∷ 0 ∷ 0 ∷ 0 ∷ 0 ∷ 0 ∷ 0 ∷ 0 ∷ 0 ∷ 0 ∷ 0 ∷ 0 ∷ 0 ∷ 0 ∷ 0 ∷ 0 ∷ 0 ∷ 0 ∷ 0 ∷ 0 ∷ 0 ∷ 0 ∷ 0 ∷ 0 ∷  -- 5 end function
    []

abbrev pub page-labels : List ℕ
page-labels =
    1 ∷ 0 ∷ 0 ∷ 5 ∷  -- stock
    4 ∷ 0 ∷ 0 ∷ 3 ∷  -- top
    []

abbrev pub page-names : List ℕ
page-names = (115 ∷ 116 ∷ 111 ∷ 99 ∷ 107 ∷ replicate 59 0) ++ (116 ∷ 111 ∷ 112 ∷ replicate 61 0)

abbrev pub page : Tables
page =
    record { statements = page-rows; count = 6; labels = page-labels; label_count = 2; names = page-names; data_length = 4 }

-- an `if` with an `else if` and a bare `else`
abbrev pub arms-rows : List ℕ
arms-rows =
    1 ∷ 0 ∷ 0 ∷ 0 ∷ 4 ∷ 1 ∷ 0 ∷ 0 ∷ 0 ∷ 0 ∷ 0 ∷ 0 ∷ 0 ∷ 0 ∷ 0 ∷ 0 ∷ 0 ∷ 0 ∷ 0 ∷ 0 ∷ 0 ∷ 0 ∷ 0 ∷ 0 ∷ 0 ∷ 0 ∷ 0 ∷  -- 0 function a
    14 ∷ 0 ∷ 0 ∷ 1 ∷ 4 ∷ 0 ∷ 0 ∷ 0 ∷ 2 ∷ 0 ∷ 0 ∷ 2 ∷ 3 ∷ 1 ∷ 1 ∷ 0 ∷ 0 ∷ 0 ∷ 0 ∷ 0 ∷ 0 ∷ 0 ∷ 0 ∷ 0 ∷ 0 ∷ 0 ∷ 0 ∷  -- 1 ifeq a 1
    6 ∷ 0 ∷ 0 ∷ 2 ∷ 3 ∷ 0 ∷ 1 ∷ 0 ∷ 1 ∷ 0 ∷ 0 ∷ 1 ∷ 10 ∷ 0 ∷ 0 ∷ 0 ∷ 0 ∷ 0 ∷ 0 ∷ 0 ∷ 0 ∷ 0 ∷ 0 ∷ 0 ∷ 0 ∷ 0 ∷ 0 ∷  -- 2 set a 10
    21 ∷ 0 ∷ 0 ∷ 1 ∷ 8 ∷ 0 ∷ 0 ∷ 0 ∷ 0 ∷ 0 ∷ 0 ∷ 0 ∷ 0 ∷ 0 ∷ 0 ∷ 0 ∷ 0 ∷ 0 ∷ 0 ∷ 0 ∷ 0 ∷ 0 ∷ 0 ∷ 0 ∷ 0 ∷ 0 ∷ 0 ∷  -- 3 else
    14 ∷ 0 ∷ 0 ∷ 1 ∷ 7 ∷ 0 ∷ 0 ∷ 0 ∷ 2 ∷ 0 ∷ 0 ∷ 2 ∷ 3 ∷ 1 ∷ 2 ∷ 0 ∷ 0 ∷ 0 ∷ 0 ∷ 0 ∷ 0 ∷ 0 ∷ 0 ∷ 0 ∷ 0 ∷ 0 ∷ 0 ∷  -- 4 ifeq a 2
    6 ∷ 0 ∷ 0 ∷ 5 ∷ 3 ∷ 0 ∷ 1 ∷ 0 ∷ 1 ∷ 0 ∷ 0 ∷ 1 ∷ 20 ∷ 0 ∷ 0 ∷ 0 ∷ 0 ∷ 0 ∷ 0 ∷ 0 ∷ 0 ∷ 0 ∷ 0 ∷ 0 ∷ 0 ∷ 0 ∷ 0 ∷  -- 5 set a 20
    20 ∷ 0 ∷ 0 ∷ 1 ∷ 8 ∷ 0 ∷ 0 ∷ 0 ∷ 0 ∷ 0 ∷ 0 ∷ 0 ∷ 0 ∷ 0 ∷ 0 ∷ 0 ∷ 0 ∷ 0 ∷ 0 ∷ 0 ∷ 0 ∷ 0 ∷ 0 ∷ 0 ∷ 0 ∷ 0 ∷ 0 ∷  -- 6 else
    6 ∷ 0 ∷ 0 ∷ 7 ∷ 3 ∷ 0 ∷ 1 ∷ 0 ∷ 1 ∷ 0 ∷ 0 ∷ 1 ∷ 30 ∷ 0 ∷ 0 ∷ 0 ∷ 0 ∷ 0 ∷ 0 ∷ 0 ∷ 0 ∷ 0 ∷ 0 ∷ 0 ∷ 0 ∷ 0 ∷ 0 ∷  -- 7 set a 30
    22 ∷ 0 ∷ 0 ∷ 1 ∷ 0 ∷ 0 ∷ 0 ∷ 0 ∷ 0 ∷ 0 ∷ 0 ∷ 0 ∷ 0 ∷ 0 ∷ 0 ∷ 0 ∷ 0 ∷ 0 ∷ 0 ∷ 0 ∷ 0 ∷ 0 ∷ 0 ∷ 0 ∷ 0 ∷ 0 ∷ 0 ∷  -- 8 end if
    13 ∷ 0 ∷ 0 ∷ 1 ∷ 0 ∷ 0 ∷ 1 ∷ 0 ∷ 1 ∷ 0 ∷ 0 ∷ 2 ∷ 3 ∷ 0 ∷ 0 ∷ 0 ∷ 0 ∷ 0 ∷ 0 ∷ 0 ∷ 0 ∷ 0 ∷ 0 ∷ 0 ∷ 0 ∷ 0 ∷ 0 ∷  -- 9 return a
    2 ∷ 0 ∷ 0 ∷ 0 ∷ 0 ∷ 0 ∷ 0 ∷ 0 ∷ 0 ∷ 0 ∷ 0 ∷ 0 ∷ 0 ∷ 0 ∷ 0 ∷ 0 ∷ 0 ∷ 0 ∷ 0 ∷ 0 ∷ 0 ∷ 0 ∷ 0 ∷ 0 ∷ 0 ∷ 0 ∷ 0 ∷  -- 10 end function
    []

abbrev pub arms-labels : List ℕ
arms-labels =
    4 ∷ 0 ∷ 0 ∷ 1 ∷  -- f
    []

abbrev pub arms-names : List ℕ
arms-names = (102 ∷ replicate 63 0)

abbrev pub arms : Tables
arms =
    record { statements = arms-rows; count = 11; labels = arms-labels; label_count = 1; names = arms-names; data_length = 0 }

-- lets behind a block of their frame, blocks in blocks, a goto in a block, a call
abbrev pub frames-rows : List ℕ
frames-rows =
    1 ∷ 0 ∷ 0 ∷ 0 ∷ 10 ∷ 1 ∷ 0 ∷ 0 ∷ 0 ∷ 0 ∷ 0 ∷ 0 ∷ 0 ∷ 0 ∷ 0 ∷ 0 ∷ 0 ∷ 0 ∷ 0 ∷ 0 ∷ 0 ∷ 0 ∷ 0 ∷ 0 ∷ 0 ∷ 0 ∷ 0 ∷  -- 0 function a
    5 ∷ 0 ∷ 0 ∷ 1 ∷ 4 ∷ 0 ∷ 1 ∷ 0 ∷ 1 ∷ 0 ∷ 0 ∷ 2 ∷ 3 ∷ 0 ∷ 0 ∷ 0 ∷ 0 ∷ 0 ∷ 0 ∷ 0 ∷ 0 ∷ 0 ∷ 0 ∷ 0 ∷ 0 ∷ 0 ∷ 0 ∷  -- 1 let b a
    3 ∷ 0 ∷ 0 ∷ 1 ∷ 6 ∷ 1 ∷ 0 ∷ 2 ∷ 0 ∷ 0 ∷ 0 ∷ 0 ∷ 0 ∷ 0 ∷ 0 ∷ 0 ∷ 0 ∷ 0 ∷ 0 ∷ 0 ∷ 0 ∷ 0 ∷ 0 ∷ 0 ∷ 0 ∷ 0 ∷ 0 ∷  -- 2 block
    5 ∷ 0 ∷ 2 ∷ 3 ∷ 7 ∷ 0 ∷ 1 ∷ 0 ∷ 1 ∷ 0 ∷ 0 ∷ 2 ∷ 4 ∷ 0 ∷ 0 ∷ 0 ∷ 0 ∷ 0 ∷ 0 ∷ 0 ∷ 0 ∷ 0 ∷ 0 ∷ 0 ∷ 0 ∷ 0 ∷ 0 ∷  -- 3 let c b
    3 ∷ 0 ∷ 2 ∷ 3 ∷ 8 ∷ 1 ∷ 0 ∷ 3 ∷ 0 ∷ 0 ∷ 0 ∷ 0 ∷ 0 ∷ 0 ∷ 0 ∷ 0 ∷ 0 ∷ 0 ∷ 0 ∷ 0 ∷ 0 ∷ 0 ∷ 0 ∷ 0 ∷ 0 ∷ 0 ∷ 0 ∷  -- 4 block
    5 ∷ 0 ∷ 4 ∷ 5 ∷ 9 ∷ 0 ∷ 2 ∷ 0 ∷ 1 ∷ 0 ∷ 0 ∷ 2 ∷ 7 ∷ 0 ∷ 0 ∷ 0 ∷ 0 ∷ 0 ∷ 0 ∷ 0 ∷ 0 ∷ 0 ∷ 0 ∷ 0 ∷ 0 ∷ 0 ∷ 0 ∷  -- 5 let d call f c
    4 ∷ 0 ∷ 4 ∷ 3 ∷ 8 ∷ 0 ∷ 0 ∷ 0 ∷ 0 ∷ 0 ∷ 0 ∷ 0 ∷ 0 ∷ 0 ∷ 0 ∷ 0 ∷ 0 ∷ 0 ∷ 0 ∷ 0 ∷ 0 ∷ 0 ∷ 0 ∷ 0 ∷ 0 ∷ 0 ∷ 0 ∷  -- 6 end block
    4 ∷ 0 ∷ 2 ∷ 1 ∷ 6 ∷ 0 ∷ 0 ∷ 0 ∷ 0 ∷ 0 ∷ 0 ∷ 0 ∷ 0 ∷ 0 ∷ 0 ∷ 0 ∷ 0 ∷ 0 ∷ 0 ∷ 0 ∷ 0 ∷ 0 ∷ 0 ∷ 0 ∷ 0 ∷ 0 ∷ 0 ∷  -- 7 end block
    5 ∷ 0 ∷ 0 ∷ 1 ∷ 5 ∷ 0 ∷ 33 ∷ 0 ∷ 2 ∷ 0 ∷ 0 ∷ 2 ∷ 4 ∷ 1 ∷ 1 ∷ 0 ∷ 0 ∷ 0 ∷ 0 ∷ 0 ∷ 0 ∷ 0 ∷ 0 ∷ 0 ∷ 0 ∷ 0 ∷ 0 ∷  -- 8 let e add b 1
    3 ∷ 0 ∷ 0 ∷ 1 ∷ 6 ∷ 1 ∷ 0 ∷ 3 ∷ 0 ∷ 0 ∷ 0 ∷ 0 ∷ 0 ∷ 0 ∷ 0 ∷ 0 ∷ 0 ∷ 0 ∷ 0 ∷ 0 ∷ 0 ∷ 0 ∷ 0 ∷ 0 ∷ 0 ∷ 0 ∷ 0 ∷  -- 9 again: block
    5 ∷ 0 ∷ 9 ∷ 10 ∷ 7 ∷ 0 ∷ 1 ∷ 0 ∷ 1 ∷ 0 ∷ 0 ∷ 2 ∷ 5 ∷ 0 ∷ 0 ∷ 0 ∷ 0 ∷ 0 ∷ 0 ∷ 0 ∷ 0 ∷ 0 ∷ 0 ∷ 0 ∷ 0 ∷ 0 ∷ 0 ∷  -- 10 here: let g e
    18 ∷ 0 ∷ 9 ∷ 10 ∷ 15 ∷ 0 ∷ 0 ∷ 0 ∷ 2 ∷ 0 ∷ 0 ∷ 2 ∷ 7 ∷ 1 ∷ 9 ∷ 0 ∷ 0 ∷ 0 ∷ 0 ∷ 0 ∷ 0 ∷ 0 ∷ 0 ∷ 0 ∷ 0 ∷ 0 ∷ 0 ∷  -- 11 iflt g 9
    7 ∷ 0 ∷ 9 ∷ 12 ∷ 0 ∷ 0 ∷ 33 ∷ 0 ∷ 2 ∷ 2 ∷ 7 ∷ 2 ∷ 5 ∷ 1 ∷ 1 ∷ 0 ∷ 0 ∷ 0 ∷ 0 ∷ 0 ∷ 0 ∷ 0 ∷ 0 ∷ 0 ∷ 0 ∷ 0 ∷ 0 ∷  -- 12 set @g add e 1
    10 ∷ 0 ∷ 9 ∷ 12 ∷ 10 ∷ 0 ∷ 0 ∷ 0 ∷ 0 ∷ 0 ∷ 0 ∷ 0 ∷ 0 ∷ 0 ∷ 0 ∷ 0 ∷ 0 ∷ 0 ∷ 0 ∷ 0 ∷ 0 ∷ 0 ∷ 0 ∷ 0 ∷ 0 ∷ 0 ∷ 0 ∷  -- 13 goto here
    8 ∷ 0 ∷ 9 ∷ 12 ∷ 0 ∷ 0 ∷ 0 ∷ 0 ∷ 3 ∷ 0 ∷ 0 ∷ 1 ∷ 0 ∷ 1 ∷ 0 ∷ 2 ∷ 7 ∷ 0 ∷ 0 ∷ 0 ∷ 0 ∷ 0 ∷ 0 ∷ 0 ∷ 0 ∷ 0 ∷ 0 ∷  -- 14 set-byte 0 0 g
    22 ∷ 0 ∷ 9 ∷ 10 ∷ 0 ∷ 0 ∷ 0 ∷ 0 ∷ 0 ∷ 0 ∷ 0 ∷ 0 ∷ 0 ∷ 0 ∷ 0 ∷ 0 ∷ 0 ∷ 0 ∷ 0 ∷ 0 ∷ 0 ∷ 0 ∷ 0 ∷ 0 ∷ 0 ∷ 0 ∷ 0 ∷  -- 15 end if
    4 ∷ 0 ∷ 9 ∷ 1 ∷ 6 ∷ 0 ∷ 0 ∷ 0 ∷ 0 ∷ 0 ∷ 0 ∷ 0 ∷ 0 ∷ 0 ∷ 0 ∷ 0 ∷ 0 ∷ 0 ∷ 0 ∷ 0 ∷ 0 ∷ 0 ∷ 0 ∷ 0 ∷ 0 ∷ 0 ∷ 0 ∷  -- 16 end block
    10 ∷ 0 ∷ 0 ∷ 1 ∷ 9 ∷ 0 ∷ 0 ∷ 0 ∷ 0 ∷ 0 ∷ 0 ∷ 0 ∷ 0 ∷ 0 ∷ 0 ∷ 0 ∷ 0 ∷ 0 ∷ 0 ∷ 0 ∷ 0 ∷ 0 ∷ 0 ∷ 0 ∷ 0 ∷ 0 ∷ 0 ∷  -- 17 goto again
    2 ∷ 0 ∷ 0 ∷ 0 ∷ 0 ∷ 0 ∷ 0 ∷ 0 ∷ 0 ∷ 0 ∷ 0 ∷ 0 ∷ 0 ∷ 0 ∷ 0 ∷ 0 ∷ 0 ∷ 0 ∷ 0 ∷ 0 ∷ 0 ∷ 0 ∷ 0 ∷ 0 ∷ 0 ∷ 0 ∷ 0 ∷  -- 18 end function
    []

abbrev pub frames-labels : List ℕ
frames-labels =
    4 ∷ 0 ∷ 0 ∷ 1 ∷  -- f
    5 ∷ 9 ∷ 0 ∷ 5 ∷  -- again
    5 ∷ 10 ∷ 0 ∷ 4 ∷  -- here
    []

abbrev pub frames-names : List ℕ
frames-names = (102 ∷ replicate 63 0) ++ (97 ∷ 103 ∷ 97 ∷ 105 ∷ 110 ∷ replicate 59 0) ++ (104 ∷ 101 ∷ 114 ∷ 101 ∷ replicate 60 0)

abbrev pub frames : Tables
frames =
    record { statements = frames-rows; count = 19; labels = frames-labels; label_count = 3; names = frames-names; data_length = 0 }

-- a forward call, to a function that stands behind it
abbrev pub forward-rows : List ℕ
forward-rows =
    1 ∷ 0 ∷ 0 ∷ 0 ∷ 3 ∷ 0 ∷ 0 ∷ 0 ∷ 0 ∷ 0 ∷ 0 ∷ 0 ∷ 0 ∷ 0 ∷ 0 ∷ 0 ∷ 0 ∷ 0 ∷ 0 ∷ 0 ∷ 0 ∷ 0 ∷ 0 ∷ 0 ∷ 0 ∷ 0 ∷ 0 ∷  -- 0 function
    11 ∷ 0 ∷ 0 ∷ 1 ∷ 0 ∷ 0 ∷ 2 ∷ 3 ∷ 0 ∷ 0 ∷ 0 ∷ 0 ∷ 0 ∷ 0 ∷ 0 ∷ 0 ∷ 0 ∷ 0 ∷ 0 ∷ 0 ∷ 0 ∷ 0 ∷ 0 ∷ 0 ∷ 0 ∷ 0 ∷ 0 ∷  -- 1 call g
    2 ∷ 0 ∷ 0 ∷ 0 ∷ 0 ∷ 0 ∷ 0 ∷ 0 ∷ 0 ∷ 0 ∷ 0 ∷ 0 ∷ 0 ∷ 0 ∷ 0 ∷ 0 ∷ 0 ∷ 0 ∷ 0 ∷ 0 ∷ 0 ∷ 0 ∷ 0 ∷ 0 ∷ 0 ∷ 0 ∷ 0 ∷  -- 2 end function
    1 ∷ 3 ∷ 3 ∷ 0 ∷ 3 ∷ 0 ∷ 0 ∷ 0 ∷ 0 ∷ 0 ∷ 0 ∷ 0 ∷ 0 ∷ 0 ∷ 0 ∷ 0 ∷ 0 ∷ 0 ∷ 0 ∷ 0 ∷ 0 ∷ 0 ∷ 0 ∷ 0 ∷ 0 ∷ 0 ∷ 0 ∷  -- 3 function
    2 ∷ 3 ∷ 3 ∷ 0 ∷ 0 ∷ 0 ∷ 0 ∷ 0 ∷ 0 ∷ 0 ∷ 0 ∷ 0 ∷ 0 ∷ 0 ∷ 0 ∷ 0 ∷ 0 ∷ 0 ∷ 0 ∷ 0 ∷ 0 ∷ 0 ∷ 0 ∷ 0 ∷ 0 ∷ 0 ∷ 0 ∷  -- 4 end function
    []

abbrev pub forward-labels : List ℕ
forward-labels =
    4 ∷ 0 ∷ 0 ∷ 1 ∷  -- f
    3 ∷ 3 ∷ 0 ∷ 1 ∷  -- g
    3 ∷ 3 ∷ 0 ∷ 1 ∷  -- h
    []

abbrev pub forward-names : List ℕ
forward-names = (102 ∷ replicate 63 0) ++ (103 ∷ replicate 63 0) ++ (104 ∷ replicate 63 0)

abbrev pub forward : Tables
forward =
    record { statements = forward-rows; count = 5; labels = forward-labels; label_count = 3; names = forward-names; data_length = 0 }

-- word j of statement n, of label n, byte j of name n
abbrev statement : Tables → ℕ → ℕ → ℕ → Tables
statement t n j v = record { statements = set t.statements (n * statement_row + j) v; count = t.count; labels = t.labels; label_count = t.label_count; names = t.names; data_length = t.data_length }

abbrev label : Tables → ℕ → ℕ → ℕ → Tables
label t n j v = record { statements = t.statements; count = t.count; labels = set t.labels (n * label_row + j) v; label_count = t.label_count; names = t.names; data_length = t.data_length }

abbrev name : Tables → ℕ → ℕ → ℕ → Tables
name t n j v = record { statements = t.statements; count = t.count; labels = t.labels; label_count = t.label_count; names = set t.names (n * 64 + j) v; data_length = t.data_length }

abbrev counted : Tables → ℕ → Tables
counted t n = record { statements = t.statements; count = n; labels = t.labels; label_count = t.label_count; names = t.names; data_length = t.data_length }

abbrev at32 : Tables → Program
at32 = program_from Bits32

pub record Strong : Type 0 where
  -- the good table page
  pub page-good : well_formed (at32 page) ≡ true
  -- its unused words are 0
  pub page-canonical : canonical page ≡ true
  -- no row of it is broken
  pub page-sound : tables_fault (at32 page) ≡ false
  -- the good table arms
  pub arms-good : well_formed (at32 arms) ≡ true
  -- its unused words are 0
  pub arms-canonical : canonical arms ≡ true
  -- no row of it is broken
  pub arms-sound : tables_fault (at32 arms) ≡ false
  -- the good table frames
  pub frames-good : well_formed (at32 frames) ≡ true
  -- its unused words are 0
  pub frames-canonical : canonical frames ≡ true
  -- no row of it is broken
  pub frames-sound : tables_fault (at32 frames) ≡ false
  -- a kind that is none: `end if` for `end block`
  pub kind : well_formed (at32 (statement page 4 0 22)) ≡ false
  -- another function
  pub func : well_formed (at32 (statement page 3 1 1)) ≡ false
  -- a row of the block in the scope outside
  pub scope : well_formed (at32 (statement page 3 2 0)) ≡ false
  -- a row of the block with the function around it
  pub up : well_formed (at32 (statement page 3 3 1)) ≡ false
  -- the last row cut off: the function stays open
  pub cut : well_formed (at32 (counted page 5)) ≡ false
  -- a let in an if of its frame
  pub let-in-if : well_formed (at32 (statement arms 5 0 5)) ≡ false
  -- no test behind an else-if jump
  pub jump-test : well_formed (at32 (statement arms 4 0 11)) ≡ false
  -- a false test sent to the else-if jump and not to its test
  pub false-test : well_formed (at32 (statement arms 1 4 3)) ≡ false
  -- a false test sent to the bare else and not past it
  pub false-else : well_formed (at32 (statement arms 4 4 6)) ≡ false
  -- an else sent past the `end if`
  pub else-past : well_formed (at32 (statement arms 6 4 9)) ≡ false
  -- an else-if jump sent to the bare else
  pub jump : well_formed (at32 (statement arms 3 4 6)) ≡ false
  -- a goto to a row without a label
  pub goto-place : well_formed (at32 (statement frames 13 4 11)) ≡ false
  -- a goto out of its block, to a labelled row
  pub goto-scope : well_formed (at32 (statement frames 13 4 9)) ≡ false
  -- a call to a row that is no function
  pub callee : well_formed (at32 (statement frames 5 7 2)) ≡ false
  -- a call to a function without a label: its label moved to the row behind
  pub callee-label : well_formed (at32 (label (label frames 0 0 5) 0 1 1)) ≡ false
  -- a call with an argument more
  pub arguments : well_formed (at32 (statement frames 5 8 2)) ≡ false
  -- an operator with an operand too few
  pub operands : well_formed (at32 (statement page 2 8 1)) ≡ false
  -- an operand of an unlisted kind
  pub operand-kind : well_formed (at32 (statement page 3 11 7)) ≡ false
  -- an expression kind that is no operator
  pub expression : well_formed (at32 (statement page 2 6 52)) ≡ false
  -- a let that reads its own word
  pub own-word : well_formed (at32 (statement page 2 12 5)) ≡ false
  -- a set of a header word
  pub header : well_formed (at32 (statement arms 2 4 2)) ≡ false
  -- an operand that names a let of the frame outside, which stands after the block
  pub later-let : well_formed (at32 (statement frames 3 12 5)) ≡ false
  -- a data address without a label
  pub address : well_formed (at32 (statement page 2 14 4)) ≡ false
  -- the address of `set @` with a second `@`
  pub address-slot : well_formed (at32 (statement frames 12 9 5)) ≡ false
  -- a let behind a block that takes the block's word
  pub let-word : well_formed (at32 (statement frames 8 4 6)) ≡ false
  -- a block with the word of a let behind it
  pub base : well_formed (at32 (statement frames 2 4 5)) ≡ false
  -- an `end block` with another word than its block
  pub end-base : well_formed (at32 (statement frames 7 4 8)) ≡ false
  -- a block with another number of lets
  pub own-lets : well_formed (at32 (statement page 1 5 2)) ≡ false
  -- a block with another number of locals before it
  pub before : well_formed (at32 (statement frames 9 7 2)) ≡ false
  -- a frame size one word too big
  pub size : well_formed (at32 (statement page 0 4 7)) ≡ false
  -- a frame size one word too small
  pub size_small : well_formed (at32 (statement frames 0 4 9)) ≡ false
  -- an unlisted label kind
  pub label-kind : well_formed (at32 (label page 0 0 6)) ≡ false
  -- a function label on another row
  pub label-function : well_formed (at32 (label page 1 1 1)) ≡ false
  -- a place label on the `function` row
  pub label-place : well_formed (at32 (label frames 1 1 0)) ≡ false
  -- a place label on an else-if jump is good
  pub label-jump : well_formed (at32 (label (label arms 0 0 5) 0 1 3)) ≡ true
  -- and not on the test behind it
  pub label-test : well_formed (at32 (label (label arms 0 0 5) 0 1 4)) ≡ false
  -- a data label past the data's end
  pub label-address : well_formed (at32 (label page 0 1 5)) ≡ false
  -- an empty name
  pub label-empty : well_formed (at32 (label page 1 3 0)) ≡ false
  -- a name of 65 bytes
  pub label-long : well_formed (at32 (label page 1 3 65)) ≡ false
  -- the reserved name `or`
  pub label-reserved : well_formed (at32 (label (name (name arms 0 0 111) 0 1 114) 0 3 2)) ≡ false
  -- two labels of one name
  pub label-twice : well_formed (at32 (label (name frames 2 0 102) 2 3 1)) ≡ false
  -- a local word at the frame size is broken
  pub fault-word : tables_fault (at32 (statement page 3 12 6)) ≡ true
  -- a header word is not
  pub fault-header : tables_fault (at32 (statement page 3 12 0)) ≡ false
  -- a data address above the data's length is broken
  pub fault-address : tables_fault (at32 (statement page 2 14 5)) ≡ true
  -- a data address at the data's length is not
  pub fault-address-end : tables_fault (at32 (statement page 2 14 4)) ≡ false
  -- a block's last let at the frame size is broken
  pub fault-block : tables_fault (at32 (statement page 1 5 2)) ≡ true
  -- a frame size below 3 + parameters is broken
  pub fault-size : tables_fault (at32 (statement arms 0 4 3)) ≡ true
  -- a target past the rows is broken
  pub fault-target : tables_fault (at32 (statement arms 1 4 11)) ≡ true
  -- a wrong target in the function is not
  pub fault-else : tables_fault (at32 (statement arms 1 4 3)) ≡ false
  -- a goto out of its block is not
  pub fault-goto : tables_fault (at32 (statement frames 13 4 9)) ≡ false
  -- a call to a row that is no function is broken
  pub fault-callee : tables_fault (at32 (statement frames 5 7 2)) ≡ true
  -- another number of arguments is broken
  pub fault-arguments : tables_fault (at32 (statement frames 5 8 2)) ≡ true
  -- a row of zeros is broken
  pub fault-kind : tables_fault (at32 (statement arms 8 0 0)) ≡ true
  -- an unused word that is not 0 is not
  pub fault-unused : tables_fault (at32 (statement arms 8 5 9)) ≡ false
  -- a data label past the data's end is broken
  pub fault-label : tables_fault (at32 (label page 0 1 5)) ≡ true
  -- a data label at the data's end is not
  pub fault-label-end : tables_fault (at32 (label page 0 1 4)) ≡ false
  -- a place label past the rows is broken
  pub fault-place : tables_fault (at32 (label frames 1 1 19)) ≡ true
  -- a name of 65 bytes is broken
  pub fault-name : tables_fault (at32 (label page 1 3 65)) ≡ true
  -- a count past its table is broken
  pub fault-count : tables_fault (at32 (counted page 7)) ≡ true
  -- an unused word that is not 0 is not canonical
  pub unused : canonical (statement arms 8 5 9) ≡ false

pub strong : Strong
unfolding opened
strong = record { page-good = refl; page-canonical = refl; page-sound = refl; arms-good = refl; arms-canonical = refl; arms-sound = refl; frames-good = refl; frames-canonical = refl; frames-sound = refl; kind = refl; func = refl; scope = refl; up = refl; cut = refl; let-in-if = refl; jump-test = refl; false-test = refl; false-else = refl; else-past = refl; jump = refl; goto-place = refl; goto-scope = refl; callee = refl; callee-label = refl; arguments = refl; operands = refl; operand-kind = refl; expression = refl; own-word = refl; header = refl; later-let = refl; address = refl; address-slot = refl; let-word = refl; base = refl; end-base = refl; own-lets = refl; before = refl; size = refl; size_small = refl; label-kind = refl; label-function = refl; label-place = refl; label-jump = refl; label-test = refl; label-address = refl; label-empty = refl; label-long = refl; label-reserved = refl; label-twice = refl; fault-word = refl; fault-header = refl; fault-address = refl; fault-address-end = refl; fault-block = refl; fault-size = refl; fault-target = refl; fault-else = refl; fault-goto = refl; fault-callee = refl; fault-arguments = refl; fault-kind = refl; fault-unused = refl; fault-label = refl; fault-label-end = refl; fault-place = refl; fault-name = refl; fault-count = refl; unused = refl }

-- exports, and calls to a function that stands behind them
pub record Forward : Type 0 where
  -- the good table forward
  pub good : well_formed (at32 forward) ≡ true
  -- one of two labels of the function that is called from before it is exported
  pub one : well_formed (at32 (label forward 1 0 4)) ≡ true
  -- an exported-only function called from before it
  pub exported : well_formed (at32 (label (label forward 1 0 4) 2 0 4)) ≡ false
  -- no row of it is broken
  pub sound : tables_fault (at32 (label (label forward 1 0 4) 2 0 4)) ≡ false
  -- exported-only, and called from behind it
  pub behind : well_formed (at32 (statement (label (label forward 1 0 4) 2 0 4) 1 7 0)) ≡ true

pub forward-calls : Forward
unfolding opened
forward-calls = record { good = refl; one = refl; exported = refl; sound = refl; behind = refl }
