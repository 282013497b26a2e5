-- Small texts: where an escape breaks, good and spoilt.
-- Assumes nothing.
use mathlib.Core.Path.{◌≡◌, refl, sym}
use mathlib.Core.Bool.{true, false}
use mathlib.Core.List.{[], ◌∷◌}
use native.Mathlib.Omega.{arith}
use Rattle.base_prelude.specs.Choice.{if_lt, if_eq, if_true}
use Rattle.base_prelude.specs.Bytes.{byte_at}
use Rattle.base_prelude.specs.Lists.{is_among}
use Rattle.base_prelude.proofs.Choice.{true-false}
use Rattle.lex_spelling.specs.Escape.{decoded, hex_of, plain_of, bad_place, plain_at, hex_at, hex_from, escape_at}
use Rattle.lex_spelling.specs.Breaks.{hex_digits, short_bytes, patterns, begins, goes_on, some_pattern, escape_begins, bytes_from, Breaks}
use Rattle.std.proofs.Common.{Ok, Err}

-- `\q`; `\X41`; a backslash before byte 13; a backslash at the source's end
letter-places : (escape_at (92 ∷ 113 ∷ []) 0 ≡ Err 1) × (escape_at (92 ∷ 88 ∷ 52 ∷ 49 ∷ []) 0 ≡ Err 1) × (escape_at (92 ∷ 13 ∷ 10 ∷ []) 0 ≡ Err 1)
    × (escape_at (34 ∷ 92 ∷ []) 1 ≡ Err 2)
unfolding escape_at hex_from hex_at plain_at bad_place hex_of plain_of byte_at if_eq if_lt
letter-places = (refl, refl, refl, refl)

-- `\xg1`; `\x` before byte 10; `\x` before a continuation: its backslash; `\x` at the source's end
first-places : (escape_at (92 ∷ 120 ∷ 103 ∷ 49 ∷ []) 0 ≡ Err 2) × (escape_at (92 ∷ 120 ∷ 10 ∷ []) 0 ≡ Err 2) × (escape_at (92 ∷ 120 ∷ 92 ∷ 10 ∷ []) 0 ≡ Err 2)
    × (escape_at (92 ∷ 120 ∷ []) 0 ≡ Err 2)
unfolding escape_at hex_from hex_at plain_at bad_place hex_of plain_of byte_at if_eq if_lt
first-places = (refl, refl, refl, refl)

-- `\x4g`; `\x4` at the source's end; `\x4f` is no bad escape
second-places : (escape_at (92 ∷ 120 ∷ 52 ∷ 103 ∷ []) 0 ≡ Err 3) × (escape_at (92 ∷ 120 ∷ 52 ∷ []) 0 ≡ Err 3) × (escape_at (92 ∷ 120 ∷ 52 ∷ 102 ∷ []) 0 ≡ Ok (decoded 79 4))
unfolding escape_at hex_from hex_at plain_at bad_place hex_of plain_of byte_at if_eq if_lt
second-places = (refl, refl, refl)

-- one byte goes on with `\xg`, two with `\x4g`
bytes-going-on : (hex_at 0 16 4 ≡ Err (bad_place 0 1)) × (hex_at 0 4 16 ≡ Err (bad_place 0 2))
unfolding hex_at if_lt
bytes-going-on = (refl, refl)

-- `\t` is an escape, `\q` begins none
short-begun : (escape_begins (92 ∷ 116 ∷ []) ≡ true) × (escape_begins (92 ∷ 113 ∷ []) ≡ false)
unfolding some_pattern patterns begins short_bytes hex_digits is_among if_true
short-begun = (refl, refl)

-- `\x4F` is an escape, `\x4G` begins none
hex-begun : (escape_begins (92 ∷ 120 ∷ 52 ∷ 70 ∷ []) ≡ true) × (escape_begins (92 ∷ 120 ∷ 52 ∷ 71 ∷ []) ≡ false)
unfolding some_pattern patterns begins short_bytes hex_digits is_among if_true
hex-begun = (refl, refl)

-- `\x4g` breaks at `g`, and `\n` does not break at the `q` behind it
breaks-there : Breaks (92 ∷ 120 ∷ 52 ∷ 103 ∷ []) 0 3
unfolding some_pattern patterns begins goes_on bytes_from byte_at short_bytes hex_digits is_among if_true
breaks-there = record { behind = omega arith; within = omega arith; begun = refl; broken = refl }

whole-holds : Breaks (92 ∷ 110 ∷ 113 ∷ []) 0 2 → ⊥
unfolding some_pattern patterns begins goes_on bytes_from byte_at short_bytes hex_digits is_among if_true
whole-holds b = true-false (sym b.begun)
