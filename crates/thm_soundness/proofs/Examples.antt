-- Small sources and the programs that their checks leave: 3 statements, 2 labels, 1 byte of data; two imports and a call.
-- Assumes nothing.
use mathlib.Core.Path.{◌≡◌, refl}
use mathlib.Core.List.{List, [], ◌∷◌, ◌++◌}
use Prim.Native.Nat.{ℕ, zero, suc}
use Rattle.base_limits.specs.declared.Width.TheVariants.{Bits32}
use lib.ListN.{get_or}
use Rattle.base_prelude.specs.Lists.{zeros}
use Rattle.prog_tables.specs.Hosts.{Hosts}
use Rattle.prog_tables.specs.Label.{Tables}
use Rattle.prog_tables.proofs.Samples.{program}
use Rattle.check_source.specs.Check.{lent, check_of}
use Rattle.thm_acceptance.proofs.Opened.{opened}
use Rattle.thm_soundness.specs.Program.{program_by, program_of}

-- section data
-- x: byte 7
-- section functions
-- f: function
-- return x
-- end function
abbrev source : List ℕ
source =
    (115 ∷ 101 ∷ 99 ∷ 116 ∷ 105 ∷ 111 ∷ 110 ∷ 32 ∷ 100 ∷ 97 ∷ 116 ∷ 97 ∷ 10 ∷ [])
    ++ (120 ∷ 58 ∷ 32 ∷ 98 ∷ 121 ∷ 116 ∷ 101 ∷ 32 ∷ 55 ∷ 10 ∷ [])
    ++ (115 ∷ 101 ∷ 99 ∷ 116 ∷ 105 ∷ 111 ∷ 110 ∷ 32 ∷ 102 ∷ 117 ∷ 110 ∷ 99 ∷ 116 ∷ 105 ∷ 111 ∷ 110 ∷ 115 ∷ 10 ∷ [])
    ++ (102 ∷ 58 ∷ 32 ∷ 102 ∷ 117 ∷ 110 ∷ 99 ∷ 116 ∷ 105 ∷ 111 ∷ 110 ∷ 10 ∷ [])
    ++ (114 ∷ 101 ∷ 116 ∷ 117 ∷ 114 ∷ 110 ∷ 32 ∷ 120 ∷ 10 ∷ [])
    ++ (101 ∷ 110 ∷ 100 ∷ 32 ∷ 102 ∷ 117 ∷ 110 ∷ 99 ∷ 116 ∷ 105 ∷ 111 ∷ 110 ∷ [])

abbrev expected : Tables
expected =
    program
    ((1 ∷ 0 ∷ 0 ∷ 0 ∷ 3 ∷ []) ∷ (13 ∷ 0 ∷ 0 ∷ 1 ∷ 0 ∷ 0 ∷ 1 ∷ 0 ∷ 1 ∷ 0 ∷ 0 ∷ 3 ∷ []) ∷ (2 ∷ []) ∷ [])
    ((1 ∷ 0 ∷ 0 ∷ 1 ∷ []) ∷ (3 ∷ 0 ∷ 0 ∷ 1 ∷ []) ∷ [])
    ((120 ∷ []) ∷ (102 ∷ []) ∷ []) 1

program-left : program_of (check_of Bits32 (record { words = []; names = [] }) source (lent 160 81 8 128 1)) ≡ expected
unfolding opened program_by
program-left = refl

-- section functions
-- import y
-- import x
-- f: function
-- return call x 1
-- end function
abbrev importing : List ℕ
importing =
    (115 ∷ 101 ∷ 99 ∷ 116 ∷ 105 ∷ 111 ∷ 110 ∷ 32 ∷ 102 ∷ 117 ∷ 110 ∷ 99 ∷ 116 ∷ 105 ∷ 111 ∷ 110 ∷ 115 ∷ 10 ∷ [])
    ++ (105 ∷ 109 ∷ 112 ∷ 111 ∷ 114 ∷ 116 ∷ 32 ∷ 121 ∷ 10 ∷ [])
    ++ (105 ∷ 109 ∷ 112 ∷ 111 ∷ 114 ∷ 116 ∷ 32 ∷ 120 ∷ 10 ∷ [])
    ++ (102 ∷ 58 ∷ 32 ∷ 102 ∷ 117 ∷ 110 ∷ 99 ∷ 116 ∷ 105 ∷ 111 ∷ 110 ∷ 10 ∷ [])
    ++ (114 ∷ 101 ∷ 116 ∷ 117 ∷ 114 ∷ 110 ∷ 32 ∷ 99 ∷ 97 ∷ 108 ∷ 108 ∷ 32 ∷ 120 ∷ 32 ∷ 49 ∷ 10 ∷ [])
    ++ (101 ∷ 110 ∷ 100 ∷ 32 ∷ 102 ∷ 117 ∷ 110 ∷ 99 ∷ 116 ∷ 105 ∷ 111 ∷ 110 ∷ [])

-- the host lists `y` with 2 arguments and `x` with 1
abbrev hosts : Hosts
hosts = record { words = 1 ∷ 2 ∷ 1 ∷ 1 ∷ []; names = 121 ∷ (zeros 63 ++ (120 ∷ [])) }

-- the call has the kind of its own, and calls label row 1
abbrev importing-expected : Tables
importing-expected =
    program
    ((1 ∷ 0 ∷ 0 ∷ 0 ∷ 3 ∷ []) ∷ (13 ∷ 0 ∷ 0 ∷ 1 ∷ 0 ∷ 0 ∷ 3 ∷ 1 ∷ 1 ∷ 0 ∷ 0 ∷ 1 ∷ 1 ∷ []) ∷ (2 ∷ []) ∷ [])
    ((6 ∷ 0 ∷ 2 ∷ 1 ∷ []) ∷ (6 ∷ 1 ∷ 1 ∷ 1 ∷ []) ∷ (3 ∷ 0 ∷ 0 ∷ 1 ∷ []) ∷ [])
    ((121 ∷ []) ∷ (120 ∷ []) ∷ (102 ∷ []) ∷ []) 0

imports-left : program_of (check_of Bits32 hosts importing (lent 152 81 12 192 0)) ≡ importing-expected
unfolding opened program_by
imports-left = refl

-- no mark of the host is left in the token table: behind `import`, of row 4, word 7 is 0
marks-gone : get_or (check_of Bits32 hosts importing (lent 152 81 12 192 0)).tokens 39 1 ≡ 0
unfolding opened
marks-gone = refl
