-- Words and bytes of memory and stack: addresses, accesses, stores.
-- Assumes nothing.
use Rattle.std.specs.Prelude.{ℕ, suc, ◌+◌, ◌*◌, ◌%◌, ◌^◌, Bool, List, [], ◌∷◌, ltb, leb, eqb, take, drop, set}
use Rattle.base_limits.specs.Width.{bits_of, bytes_of}
use Rattle.base_limits.specs.declared.Width.{Width}
use Rattle.prog_tables.specs.Tests.{both}

-- "Addresses are unsigned: base + offset [..] modulo 2^32"
unfoldable pub byte_address : Width → ℕ → ℕ → ℕ
byte_address w b o = (b + o) % 2 ^ bits_of w

-- "[..] or base + 4 × offset, modulo 2^32"
unfoldable pub word_address : Width → ℕ → ℕ → ℕ
word_address w b o = (b + bytes_of w * o) % 2 ^ bits_of w

-- the word made of a number, modulo 2^w: every number below 2^w is its own word
unfoldable pub as_word : Width → ℕ → ℕ
as_word w v = v % 2 ^ bits_of w

-- "every byte touched must be in memory": of m bytes, the byte at a
unfoldable pub byte_good : ℕ → ℕ → Bool
byte_good m a = ltb a m

-- "A word access, `@` included, needs a multiple of 4; every byte touched must be in memory": of m bytes, the word at a
unfoldable pub word_good : Width → ℕ → ℕ → Bool
word_good w m a = both (eqb (a % bytes_of w) 0) (leb (a + bytes_of w) m)

-- "little-endian": the number of some bytes, the low byte first
unfoldable pub word_from : List ℕ → ℕ
word_from [] = 0
word_from (b ∷ bs) = b + 256 * word_from bs

-- the word at a
unfoldable pub load_of : Width → List ℕ → ℕ → ℕ
load_of w m a = word_from (take (bytes_of w) (drop a m))

-- a list, others written over it from place a on
unfoldable pub store_from : List ℕ → ℕ → List ℕ → List ℕ
store_from m a [] = m
store_from m a (x ∷ xs) = store_from (set m a x) (suc a) xs
