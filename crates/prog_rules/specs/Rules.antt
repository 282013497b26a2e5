-- The rules of `well_formed` on one row that need no frame word: "each test's and `else`'s target the one 01 gives", "`goto` and calls (to
-- labels)", exports, blocks "nested 16 deep" (02, 7); and a label of some kind with some number.
-- Assumes nothing.
use Rattle.std.specs.Prelude.{ℕ, ◌-◌, Bool, List, [], ◌∷◌, eqb, leb}
use Rattle.base_limits.specs.Limits.{parameters}
use Rattle.lang_kinds.specs.Kinds as kind
use Rattle.prog_tables.specs.Layout.{import_label}
use Rattle.prog_tables.specs.Tests.{both, all, given}
use Rattle.prog_tables.specs.Statement.{Row, is_test}
use Rattle.prog_tables.specs.Label.{Label}
use Rattle.prog_tables.specs.Program.{Program}
use Rattle.prog_tables.specs.Nesting.{is_listed, may_stand, ground_in, follows_jump, func_in, scope_in, up_in}
use Rattle.prog_tables.specs.WellFormed.{shallow, aimed, jumps, calls, shaped, forward_calls}

-- the tests of statement n, in the order of `row_tests`
unfoldable pub rule_tests : Program → ℕ → List Bool
rule_tests p n =
    shallow p.rows n
    ∷ aimed p.rows p.count n
    ∷ jumps p n
    ∷ calls p n
    ∷ shaped p.rows n
    ∷ forward_calls p n
    ∷ []

-- all of them
abbrev pub ruled : Program → ℕ → Bool
ruled p n = all (rule_tests p n)

-- the first three, and the last three
unfoldable pub ways_ruled : Program → ℕ → Bool
ways_ruled p n = all (shallow p.rows n ∷ aimed p.rows p.count n ∷ jumps p n ∷ [])

unfoldable pub calls_ruled : Program → ℕ → Bool
calls_ruled p n = all (calls p n ∷ shaped p.rows n ∷ forward_calls p n ∷ [])

-- row g is a function of m parameters
unfoldable pub is_callee : (ℕ → Row) → ℕ → ℕ → Bool
is_callee f g m = all (eqb (f g).kind kind.function ∷ eqb (f g).b m ∷ leb m parameters ∷ [])

-- label g is that of an imported function of m arguments
unfoldable pub is_imported : (ℕ → Label) → ℕ → ℕ → Bool
is_imported h g m = all (eqb (h g).kind import_label ∷ eqb (h g).arguments m ∷ leb m parameters ∷ [])

-- label i is of a kind that passes p and has number v
unfoldable pub bears : (ℕ → Label) → (ℕ → Bool) → ℕ → ℕ → Bool
bears g p v i = both (p (g i).kind) (eqb (g i).number v)

-- the tests of `stands` on the kind k of row n, where o is what is open before it
unfoldable pub stands_there : (ℕ → Row) → ℕ → ℕ → ℕ → Bool
stands_there f k n o = all (is_listed k ∷ may_stand k (ground_in f o) ∷ given (follows_jump f n) (is_test k) ∷ [])

-- those on its function, its scope and `up`
unfoldable pub fields_stand : (ℕ → Row) → ℕ → ℕ → ℕ → Bool
fields_stand f k n o =
    all
    (eqb (f n).func (func_in k n (f (o - 1)))
    ∷ eqb (f n).scope (scope_in k n o (f (o - 1)))
    ∷ eqb (f n).up (up_in k o (f (o - 1)))
    ∷ [])
