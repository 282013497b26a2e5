-- Numbers below 2^w are their own words.
-- Assumes nothing.
use mathlib.Core.Path.{◌≡◌, refl}
use Prim.Native.Nat.{ℕ, ◌<◌, ◌≤◌, ◌^◌}
use native.Mathlib.Nat.{mod-eq_of_lt}
use native.Mathlib.Omega.{arith}
use Rattle.base_limits.specs.Record.{mark}
use Rattle.base_limits.specs.Width.{bits_of, memory_limit}
use Rattle.base_limits.specs.declared.Width.{Width}
use Rattle.base_limits.specs.declared.Width.TheVariants.{Bits32, Bits16}
use Rattle.vm_definitions.specs.Access.{as_word}

pub own-word : (w : Width) (v : ℕ) → v < 2 ^ bits_of w → as_word w v ≡ v
unfolding as_word
own-word w v h = mod-eq_of_lt h

pub word-32 : (v : ℕ) → v < 4294967296 → as_word Bits32 v ≡ v
word-32 v h = own-word Bits32 v h

-- row numbers and places of the stack
pub small_word : (w : Width) (v : ℕ) → v ≤ 32768 → as_word w v ≡ v
small_word Bits32 v h = own-word Bits32 v (omega arith)
small_word Bits16 v h = own-word Bits16 v (omega arith)

-- auto tops
pub memory_word : (w : Width) (v : ℕ) → v ≤ memory_limit w → as_word w v ≡ v
memory_word Bits32 v h = own-word Bits32 v (omega arith)
memory_word Bits16 v h = own-word Bits16 v (omega arith)

pub mark-word : (w : Width) → as_word w (mark w) ≡ mark w
unfolding as_word mark
mark-word Bits32 = refl
mark-word Bits16 = refl
