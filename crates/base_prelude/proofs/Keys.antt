-- Keys: the order is that of places, then numbers; a key gives back its place and its number.
-- Assumes nothing.
use mathlib.Core.Path.{◌≡◌, ap}
use Prim.Native.Nat.{ℕ, ◌+◌, ◌*◌, ◌/◌, ◌%◌, ◌<◌}
use native.Mathlib.Nat.{mod-eq_of_lt}
use native.Mathlib.Omega.{arith}
use Rattle.base_prelude.specs.Fault.{none, key}

-- a place of 32 bits is written as it is
pub key-is : (p n : ℕ) → p < 4294967296 → key p n ≡ p * 64 + n
unfolding key
key-is p n h = ap (λ (x : ℕ). x * 64 + n) (mod-eq_of_lt h)

-- every key is a fault
pub key-fault : (p n : ℕ) → n < 64 → key p n < none
unfolding key
key-fault p n h = omega arith

-- a lower place is a lower key, whatever the numbers
pub key-lower : (p q m n : ℕ) → q < 4294967296 → m < 64 → p < q → key p m < key q n
key-lower p q m n hq hm h = omega (arith, key-is p m (omega arith), key-is q n hq)

pub key-place : (p n : ℕ) → p < 4294967296 → n < 64 → key p n / 64 ≡ p
key-place p n hp hn = omega (arith, key-is p n hp)

-- the number, whatever the place
pub key-number : (p n : ℕ) → n < 64 → key p n % 64 ≡ n
unfolding key
key-number p n h = omega arith
