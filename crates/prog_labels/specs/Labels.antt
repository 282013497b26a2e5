-- The program that lent tables hold; and what a label of a kind may name, in the parts of `names`.
-- Assumes nothing.
use Rattle.std.specs.Prelude.{ℕ, Bool, not, List, [], ◌∷◌, eqb}
use Rattle.base_prelude.specs.Choice.{if_true}
use Rattle.base_limits.specs.declared.Width.TheVariants.{Bits32}
use Rattle.lang_kinds.specs.Kinds as kind
use Rattle.prog_tables.specs.Layout.{place_label}
use Rattle.prog_tables.specs.Tests.{all}
use Rattle.prog_tables.specs.Statement.{Row}
use Rattle.prog_tables.specs.Label.{is_function_label}
use Rattle.prog_tables.specs.Program.{Program, program_from}
use Rattle.prog_tables.specs.Nesting.{follows_jump}

-- the program of lent tables: statement words and rows, label words and rows, name bytes, the data's length
abbrev pub tabled : List ℕ → ℕ → List ℕ → ℕ → List ℕ → ℕ → Program
tabled t c l k names d =
    program_from Bits32 (record { statements = t; count = c; labels = l; label_count = k; names = names; data_length = d })

-- "a statement inside a function"; that of an `else if..` line "names the jump"
unfoldable pub place_named : (ℕ → Row) → ℕ → ℕ → Bool
place_named f x v = all (eqb x place_label ∷ not (eqb (f v).kind kind.function) ∷ not (follows_jump f v) ∷ [])

-- a label of kind x may name row v
unfoldable pub row_named : (ℕ → Row) → ℕ → ℕ → Bool
row_named f x v = if_true (is_function_label x) (eqb (f v).kind kind.function) (place_named f x v)
