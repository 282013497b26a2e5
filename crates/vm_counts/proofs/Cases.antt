-- The ways through the tests of the counts, and that it is the same with any data.
-- Assumes nothing.
use mathlib.Core.Path.{◌≡◌, refl}
use mathlib.Core.Bool.{Bool, true, false}
use mathlib.Core.List.{List}
use Prim.Native.Nat.{ℕ, ◌*◌, ◌<◌, ◌≤◌}
use lib.Dec.{ltb}
use lib.ListN.{length}
use borrow.Author.Tests.{lt-ltb, le-ltb}
use Rattle.prog_tables.specs.Tests.{one_of}
use Rattle.base_limits.specs.declared.Width.TheVariants.{Bits32}
use Rattle.prog_tables.specs.Program.{program_from}
use Rattle.prog_tables.specs.Faults.{count_fault}
use Rattle.vm_definitions.specs.Lent.{tables_of}

module _ (l : List ℕ) (k : ℕ) (names : List ℕ) where
  pub labels-far : length l < k * 4 → true ≡ one_of (ltb (length l) (k * 4)) (ltb (length names) (k * 64))
  labels-far g = rw (lt-ltb _ _ g)

  pub labels-near : k * 4 ≤ length l → ltb (length names) (k * 64) ≡ one_of (ltb (length l) (k * 4)) (ltb (length names) (k * 64))
  labels-near g = rw (le-ltb _ _ g)

module _ (t : List ℕ) (c : ℕ) (l : List ℕ) (k : ℕ) (names : List ℕ) where
  module _ (v : Bool) (e : v ≡ ltb (length t) (c * 27)) where
    pub count-rows : v ≡ true → true ≡ count_fault (program_from Bits32 (tables_of t c l k names 0))
    unfolding count_fault
    count-rows h = rw (← e, h)

    pub count-labels : (b : Bool) → v ≡ false → b ≡ one_of (ltb (length l) (k * 4)) (ltb (length names) (k * 64)) → b ≡ count_fault (program_from Bits32 (tables_of t c l k names 0))
    unfolding count_fault
    count-labels b h g = rw (← e, h) g

  pub count-any : (d : ℕ) → count_fault (program_from Bits32 (tables_of t c l k names 0)) ≡ count_fault (program_from Bits32 (tables_of t c l k names d))
  unfolding count_fault
  count-any d = refl

pub ruleset label-ways = (labels-far, labels-near)

pub ruleset count-ways = (count-rows, count-labels)
