-- A total read of a text.
-- Assumes nothing.
use Rattle.std.specs.Prelude.{ℕ, List, get_or}

-- the byte at a place; past the end 256, which is no byte
unfoldable pub byte_at : List ℕ → ℕ → ℕ
byte_at s i = get_or s i 256
