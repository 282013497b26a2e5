-- "the first byte that breaks the escape" (02, request 1), by the list of escapes alone: proofs/Breaks ties `bad_place` to it.
-- Assumes nothing.
use Rattle.std.specs.Prelude.{◌≡◌, Bool, true, false, List, [], ◌∷◌, ℕ, zero, suc, ◌+◌, ◌-◌, ◌≤◌, ◌<◌, length}
use Rattle.base_prelude.specs.Choice.{if_true}
use Rattle.base_prelude.specs.Bytes.{byte_at}
use Rattle.base_prelude.specs.Lists.{is_among}

-- a pattern of an escape: for each byte in turn those that may stand there
abbrev pub Pattern : Type 0
Pattern = List (List ℕ)

-- "two hex digits, either case"
unfoldable pub hex_digits : List ℕ
hex_digits =
    48 ∷ 49 ∷ 50 ∷ 51 ∷ 52 ∷ 53 ∷ 54 ∷ 55 ∷ 56 ∷ 57
    ∷ 65 ∷ 66 ∷ 67 ∷ 68 ∷ 69 ∷ 70
    ∷ 97 ∷ 98 ∷ 99 ∷ 100 ∷ 101 ∷ 102 ∷ []

-- what makes an escape with the backslash before it: `\`, `"`, `n`, `r`, `t`, space
unfoldable pub short_bytes : List ℕ
short_bytes = 92 ∷ 34 ∷ 110 ∷ 114 ∷ 116 ∷ 32 ∷ []

-- "Escapes: `\\`, `\"`, `\n`, `\r`, `\t`, `\xXX` (two hex digits, either case), `\` space"
unfoldable pub patterns : List Pattern
patterns =
    ((92 ∷ []) ∷ short_bytes ∷ [])
    ∷ ((92 ∷ []) ∷ (120 ∷ []) ∷ hex_digits ∷ hex_digits ∷ [])
    ∷ []

-- the bytes are the beginning of a pattern, or all of it
unfoldable pub begins : Pattern → List ℕ → Bool
begins f [] = true
begins [] (b ∷ bs) = false
begins (bytes ∷ f) (b ∷ bs) = if_true (is_among b bytes) (begins f bs) false

-- the bytes are the beginning of a pattern that goes on behind them
unfoldable pub goes_on : Pattern → List ℕ → Bool
goes_on [] bs = false
goes_on (bytes ∷ f) [] = true
goes_on (bytes ∷ f) (b ∷ bs) = if_true (is_among b bytes) (goes_on f bs) false

unfoldable pub some_pattern : (Pattern → Bool) → List Pattern → Bool
some_pattern p [] = false
some_pattern p (f ∷ fs) = if_true (p f) true (some_pattern p fs)

-- an escape begins with these bytes, or is these bytes
abbrev pub escape_begins : List ℕ → Bool
escape_begins bs = some_pattern (λ f. begins f bs) patterns

-- an escape begins with these bytes and goes on behind them
abbrev pub escape_goes_on : List ℕ → Bool
escape_goes_on bs = some_pattern (λ f. goes_on f bs) patterns

-- n bytes from a place on; 256 stands for the end of the source
unfoldable pub bytes_from : ℕ → List ℕ → ℕ → List ℕ
bytes_from zero s at = []
bytes_from (suc n) s at = byte_at s at ∷ bytes_from n s (at + 1)

-- p is the first byte that breaks the escape whose backslash stands at a place: an escape begins with what stands before p and goes
-- on, and none begins with that and the byte at p; or the source ends at p
pub record Breaks (s : List ℕ) (at p : ℕ) : Type 0 where
  pub behind : at < p
  pub within : p ≤ length s
  pub begun : escape_goes_on (bytes_from (p - at) s at) ≡ true
  pub broken : escape_begins (bytes_from (suc (p - at)) s at) ≡ false

-- an escape of the source breaks at a place
abbrev pub EscapeBreaks : List ℕ → ℕ → Type 0
EscapeBreaks s p = (at : ℕ) × (byte_at s at ≡ 92) × Breaks s at p
