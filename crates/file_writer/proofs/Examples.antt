-- Writes that are computed.
-- Assumes nothing.
use mathlib.Core.Path.{◌≡◌, refl}
use mathlib.Core.Bool.{true, false}
use mathlib.Core.List.{List, [], ◌∷◌, ◌++◌}
use Prim.Native.Nat.{ℕ}
use Rattle.base_prelude.specs.Lists.{overlay, zeros}
use Rattle.prog_tables.specs.Label.{Tables}
use Rattle.prog_tables.specs.Canonical.{uses_word}
use Rattle.vm_definitions.specs.Lent.{tables_of}
use Rattle.vm_definitions.proofs.Opened.{opened}
use Rattle.vm_definitions.specs.declared.Broken.TheVariants.{At, Somewhere}
use Rattle.file_codec.specs.Fields.{field_of}
use Rattle.file_codec.specs.Rows.{uses, packed_below, packed}
use Rattle.file_codec.specs.Labels.{label_bytes}
use Rattle.file_codec.specs.File.{counts_bytes, row_fields, label_fields, file_of}
use Rattle.std.specs.Prelude.{Ok, Err}
use Rattle.file_writer.specs.declared.WriteError.TheVariants as error
use Rattle.file_writer.specs.Write.{past_limits, write_broken, wrote, fitted, unless_broken, write_of}

unfoldable told : ℕ
unfolding opened overlay uses_word field_of uses packed_below packed label_bytes counts_bytes row_fields label_fields file_of past_limits write_broken fitted unless_broken write_of
told = 0

-- no rows, no data: the counts and the empty data; the buffer's rest stays
pub nothing : write_of (tables_of [] 0 [] 0 [] 0) [] (zeros 18 ++ (7 ∷ 8 ∷ []))
    ≡ wrote (Ok 18) ((1 ∷ 12 ∷ 0 ∷ []) ++ zeros 12 ++ (2 ∷ 0 ∷ 0 ∷ 7 ∷ 8 ∷ []))
unfolding told
nothing = refl

-- a shorter buffer stays as it is
pub short : write_of (tables_of [] 0 [] 0 [] 0) [] (5 ∷ []) ≡ wrote (Err (error.Short 18)) (5 ∷ [])
unfolding told
short = refl

-- a count past its table: 35 and not 16
pub broken : write_of (tables_of [] 1 [] 0 [] 0) [] (5 ∷ []) ≡ wrote (Err (error.Broken Somewhere)) (5 ∷ [])
unfolding told
broken = refl

-- `function` of frame size 3 and its end: rows 0 and 1
abbrev rows : List ℕ
rows = (1 ∷ 0 ∷ 0 ∷ 0 ∷ 3 ∷ []) ++ zeros 22 ++ (2 ∷ []) ++ zeros 26

-- `a`, data at 0, of two bytes
abbrev one : Tables
one = tables_of rows 2 (1 ∷ 0 ∷ 0 ∷ 1 ∷ []) 1 ((97 ∷ []) ++ zeros 63) 2

pub small : file_of one (9 ∷ 10 ∷ 11 ∷ [])
    ≡ (1 ∷ 12 ∷ 0 ∷ 2 ∷ 0 ∷ 0 ∷ 0 ∷ 1 ∷ 0 ∷ 0 ∷ 0 ∷ 2 ∷ 0 ∷ 0 ∷ 0 ∷ [])
    ++ (2 ∷ 2 ∷ 0 ∷ 9 ∷ 10 ∷ [])
    ++ ((3 ∷ 24 ∷ 0 ∷ 1 ∷ []) ++ zeros 15 ++ (3 ∷ []) ++ zeros 7)
    ++ ((3 ∷ 16 ∷ 0 ∷ 2 ∷ []) ++ zeros 15)
    ++ ((4 ∷ 9 ∷ 0 ∷ 1 ∷ []) ++ zeros 7 ++ (97 ∷ []))
unfolding told
small = refl

-- it is written to a buffer of as many bytes
pub whole : write_of one (9 ∷ 10 ∷ 11 ∷ []) (zeros 78) ≡ wrote (Ok 78) (file_of one (9 ∷ 10 ∷ 11 ∷ []))
unfolding told
whole = refl

-- a third row, of a kind that is not listed: 35, placed there
pub unlisted : write_of (tables_of (rows ++ (99 ∷ []) ++ zeros 26) 3 [] 0 [] 0) [] [] ≡ wrote (Err (error.Broken (At 2))) []
unfolding told
unlisted = refl

-- a byte of data past the limit
pub past : past_limits 1024 256 32769 ≡ true
unfolding told
past = refl

-- all that the limits allow
pub allowed : past_limits 1024 256 32768 ≡ false
unfolding told
allowed = refl
