-- What depends on the width of a word.
-- Assumes nothing.
use Rattle.std.specs.Prelude.{◌≡◌, refl, ℕ, ◌*◌}
use Rattle.base_limits.specs.Limits.{word_bits, data_bytes, memory_bytes}
use Rattle.base_limits.specs.declared.Width.{Width}
use Rattle.base_limits.specs.declared.Width.TheVariants.{Bits32, Bits16}

-- bits of a word
abbrev pub bits_of : Width → ℕ
bits_of Bits32 = word_bits
bits_of Bits16 = 16

-- bytes of a word
abbrev pub bytes_of : Width → ℕ
bytes_of Bits32 = 4
bytes_of Bits16 = 2

-- the most bytes of data
abbrev pub data_limit : Width → ℕ
data_limit Bits32 = data_bytes
data_limit Bits16 = 16384

-- the most bytes of memory
abbrev pub memory_limit : Width → ℕ
memory_limit Bits32 = memory_bytes
memory_limit Bits16 = 32768

pub eight-bits : (w : Width) → bits_of w ≡ 8 * bytes_of w
eight-bits Bits32 = refl
eight-bits Bits16 = refl
