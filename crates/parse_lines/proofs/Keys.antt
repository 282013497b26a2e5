-- Keys of tokens: each is a fault.
-- Assumes nothing.
use mathlib.Core.List.{List}
use Prim.Native.Nat.{ℕ, ◌≤◌, ◌<◌}
use native.Mathlib.Omega.{arith}
use Rattle.base_prelude.specs.Fault.{none}
use Rattle.base_prelude.proofs.Keys.{key-fault}
use Rattle.parse_lines.specs.Tokens.{key_at}

pub key-low : (t : List ℕ) (n i number : ℕ) → number < 64 → key_at t n i number < none
unfolding key_at
key-low t n i number h = key-fault _ number h

-- so a rule that gives one has found a fault
pub no_key : {X : Type 0} (t : List ℕ) (n i number : ℕ) → number < 64 → none ≤ key_at t n i number → X
no_key t n i number l h = let z : ⊥ = omega (arith, key-low t n i number l) in absurd z
