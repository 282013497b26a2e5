-- The tests of `well_formed` that speak of frame words and of what is in scope: those of statement n.
-- Assumes nothing.
use Rattle.std.specs.Prelude.{ℕ, Bool, List, [], ◌∷◌}
use Rattle.prog_tables.specs.Program.{Program}
use Rattle.prog_tables.specs.Tests.{all}
use Rattle.prog_tables.specs.WellFormed.{operands_good, address_good, sets_local, framed, few_locals}

unfoldable pub frame_tests : Program → ℕ → List Bool
frame_tests p n =
    operands_good p n
    ∷ address_good p n
    ∷ sets_local p.rows n
    ∷ framed p.rows p.count n
    ∷ few_locals p.rows n
    ∷ []

-- all of them
abbrev pub frame_good : Program → ℕ → Bool
frame_good p n = all (frame_tests p n)
