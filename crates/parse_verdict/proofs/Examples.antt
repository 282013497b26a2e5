-- Small sources and tables: what the definitions find in them, good and spoilt.
-- Assumes nothing.
use mathlib.Core.Path.{◌≡◌, refl}
use mathlib.Core.List.{List, [], ◌∷◌}
use Prim.Native.Nat.{ℕ, zero, suc, ◌<◌, ◌≤◌}
use native.Mathlib.Omega.{arith}
use lib.ListN.{replicate}
use Rattle.base_prelude.specs.Fault.{none, key}
use Rattle.base_limits.specs.Limits.{tokens}
use Rattle.base_limits.specs.declared.Width.TheVariants.{Bits32}
use Rattle.lex_source.specs.Token.{Token}
use Rattle.lex_source.specs.Lex.{state, refused, lex_of, table_of}
use Rattle.parse_verdict.specs.Verdict.{all_faults, Rising}
use Rattle.parse_verdict.specs.Lexing.{token_faults, lex_faults}
use Rattle.parse_verdict.proofs.Opened.{opened}

-- `5x 6y`: two integers, each with a letter behind it
every-token : lex_faults Bits32 (53 ∷ 120 ∷ 32 ∷ 54 ∷ 121 ∷ []) ≡ key 1 2 ∷ none ∷ key 4 2 ∷ none ∷ none ∷ []
unfolding opened
every-token = refl

-- `ab\; !`: 3 at `;`, where no token is read, so neither 2 at `;` nor 2 at `!`
broken-last : lex_faults Bits32 (97 ∷ 98 ∷ 92 ∷ 59 ∷ 32 ∷ 33 ∷ []) ≡ key 3 3 ∷ []
unfolding opened
broken-last = refl

-- `"a\`, the source's end: 3 at it, and not 4 at the quote
broken-end : lex_faults Bits32 (34 ∷ 97 ∷ 92 ∷ []) ≡ key 3 3 ∷ []
unfolding opened
broken-end = refl

-- `5\q`: 2 at the backslash, which no integer may be followed by
no-escape : lex_of Bits32 (53 ∷ 92 ∷ 113 ∷ []) ≡ refused (key 1 2)
unfolding opened
no-escape = refl

-- some token
one : Token
one = record { kind = 3; first = 0; next = 1; value = 0; text = 97 ∷ []; name = 0; word = 0 }

-- `a` behind as many tokens as there may be
one-token-more : token_faults 1 Bits32 (97 ∷ []) (state 0 (replicate tokens one)) ≡ key 0 14 ∷ []
unfolding opened
one-token-more = refl

-- `section functions`, `foo`, `bar`, a line each: two words that are unknown, then the source's end
two-unknown : List ℕ
two-unknown =
    115 ∷ 101 ∷ 99 ∷ 116 ∷ 105 ∷ 111 ∷ 110 ∷ 32 ∷ 102 ∷ 117 ∷ 110 ∷ 99 ∷ 116 ∷ 105 ∷ 111 ∷ 110 ∷ 115 ∷ 10
    ∷ 102 ∷ 111 ∷ 111 ∷ 10 ∷ 98 ∷ 97 ∷ 114 ∷ []

every-unit : all_faults Bits32 (table_of (lex_of Bits32 two-unknown)) 25 ≡ none ∷ key 18 7 ∷ key 22 7 ∷ none ∷ []
unfolding opened two-unknown
every-unit = refl

-- `section functions`, `import`, `import "a"`, `import a`, a line each: between functions a name stands behind `import`, and only it
imports-between : List ℕ
imports-between =
    115 ∷ 101 ∷ 99 ∷ 116 ∷ 105 ∷ 111 ∷ 110 ∷ 32 ∷ 102 ∷ 117 ∷ 110 ∷ 99 ∷ 116 ∷ 105 ∷ 111 ∷ 110 ∷ 115 ∷ 10
    ∷ 105 ∷ 109 ∷ 112 ∷ 111 ∷ 114 ∷ 116 ∷ 10 ∷ 105 ∷ 109 ∷ 112 ∷ 111 ∷ 114 ∷ 116 ∷ 32 ∷ 34 ∷ 97 ∷ 34 ∷ 10
    ∷ 105 ∷ 109 ∷ 112 ∷ 111 ∷ 114 ∷ 116 ∷ 32 ∷ 97 ∷ []

between-functions : all_faults Bits32 (table_of (lex_of Bits32 imports-between)) 44 ≡ none ∷ key 18 7 ∷ key 25 7 ∷ none ∷ none ∷ []
unfolding opened imports-between
between-functions = refl

-- `section data`, `import a`: left out
import-inside : List ℕ
import-inside =
    115 ∷ 101 ∷ 99 ∷ 116 ∷ 105 ∷ 111 ∷ 110 ∷ 32 ∷ 100 ∷ 97 ∷ 116 ∷ 97 ∷ 10 ∷ 105 ∷ 109 ∷ 112 ∷ 111 ∷ 114 ∷ 116 ∷ 32 ∷ 97 ∷ []

inside-data : all_faults Bits32 (table_of (lex_of Bits32 import-inside)) 21 ≡ none ∷ key 13 9 ∷ none ∷ []
unfolding opened import-inside
inside-data = refl

-- two tokens at one place do not rise
twice-at-five : List ℕ
twice-at-five = 3 ∷ 5 ∷ 0 ∷ 0 ∷ 0 ∷ 0 ∷ 0 ∷ 0 ∷ 3 ∷ 5 ∷ []

not-rising : Rising twice-at-five 9 → ⊥
unfolding opened twice-at-five
not-rising h = omega (arith, (let z : 5 < 5 = h.rises 0 (omega arith) in z))
