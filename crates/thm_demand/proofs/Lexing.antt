-- Sources whose tokens are computed.
-- Assumes nothing.
use mathlib.Core.Path.{◌≡◌, refl}
use mathlib.Core.List.{List, [], ◌∷◌}
use Prim.Native.Nat.{ℕ}
use Rattle.base_limits.specs.declared.Width.TheVariants.{Bits32}
use Rattle.lang_kinds.specs.Tokens as token
use Rattle.lex_source.specs.Token.{Token}
use Rattle.lex_source.specs.Lex.{lex_of, accepted}
use Rattle.parse_verdict.proofs.Opened.{opened}

-- `"a\\"` is one string of two bytes
pub text-two : lex_of Bits32 (34 ∷ 97 ∷ 92 ∷ 92 ∷ 34 ∷ [])
    ≡ accepted (record { kind = token.string; first = 0; next = 5; value = 2; text = 97 ∷ 92 ∷ []; name = 0; word = 0 } ∷ [])
unfolding opened
text-two = refl

-- a habit to rule out, "a backslash at a comment's end joining lines": `#\`, byte 10, `x` are a newline and a symbol
pub comment-joins-nothing : lex_of Bits32 (35 ∷ 92 ∷ 10 ∷ 120 ∷ [])
    ≡ accepted (
    record { kind = token.newline; first = 2; next = 3; value = 0; text = []; name = 0; word = 0 }
    ∷ record { kind = token.symbol; first = 3; next = 4; value = 1; text = 120 ∷ []; name = 1; word = 0 }
    ∷ []
    )
unfolding opened
comment-joins-nothing = refl
