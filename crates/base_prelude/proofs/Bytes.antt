-- Reads at a place.
-- Assumes nothing.
use mathlib.Core.Path.{◌≡◌, refl}
use mathlib.Core.List.{List, [], ◌∷◌}
use Prim.Native.Nat.{ℕ, zero, suc, ◌<◌}
use native.Mathlib.Nat.{le_of_suc-le-suc, not-suc-le-zero, zero-lt-suc, lt_irrefl}
use native.Mathlib.Omega.{arith}
use lib.ListN.{length, get_or}
use Rattle.base_prelude.specs.Bytes.{byte_at}

-- within a list, what stands past its end does not matter
pub get_d-within : (s : List ℕ) (i d e : ℕ) → i < length s → get_or s i d ≡ get_or s i e
get_d-within [] i d e h = absurd (not-suc-le-zero h)
get_d-within (x ∷ s) zero d e h = refl
get_d-within (x ∷ s) (suc i) d e h = get_d-within s i d e (le_of_suc-le-suc h)

-- a place at which a byte stands is within
pub byte-within : (s : List ℕ) (i : ℕ) → byte_at s i < 256 → i < length s
unfolding byte_at
byte-within [] i h = absurd (lt_irrefl 256 h)
byte-within (x ∷ s) zero h = zero-lt-suc _
byte-within (x ∷ s) (suc i) h = omega (arith, byte-within s i h)
