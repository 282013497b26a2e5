-- The table "Orders to get right": each field is a row, or a part of one, and holds by computation.
-- Assumes nothing.
use Rattle.std.specs.Prelude.{Ok}
use Rattle.std.specs.Prelude.{◌≡◌, List, [], ◌∷◌, ℕ, ◌-◌, ◌^◌, length}
use Rattle.base_limits.specs.declared.Width.TheVariants.{Bits32}
use Rattle.lex_source.specs.Token.{Token}
use Rattle.lex_source.specs.Lex.{lex_of, accepted}
use Rattle.app_listing.specs.Listing.{list_of}
use Rattle.app_listing.specs.Cases.{case1, case1-page, empty-page}
use Rattle.thm_soundness.specs.Program.{program_of}
use Rattle.thm_demand.specs.CaseTwo.{case1-check, CaseTwo}
use Rattle.base_word.specs.Word.{add_of, div_of, mod_of, bsr_of, asr_of, shl_of}
use Rattle.lang_kinds.specs.Tokens as token

-- the 32-bit word of -n
abbrev minus : ℕ → ℕ
minus n = 2 ^ 32 - n

-- a string token
abbrev quoted : ℕ → ℕ → List ℕ → Token
quoted first next text = record { kind = token.string; first = first; next = next; value = length text; text = text; name = 0; word = 0 }

pub record Orders : Type 0 where
  -- "(1) the page above": case 1 of the lister, from the bytes of its source
  pub row1 : list_of case1 ≡ case1-page
  -- "(2) `top` with 30 gives 42 in 3 steps; 6 stack words suffice, 5 give 23": on the tables and data that the check of case 1 leaves
  pub row2 : CaseTwo (program_of case1-check) case1-check.bytes
  -- "(3) empty source: `accepted 0 0 0`"
  pub row3 : list_of [] ≡ empty-page
  -- "(4) `add 2147483647 1` is -2147483648"
  pub row4 : add_of 32 2147483647 1 ≡ minus 2147483648
  -- "(5) `div -7 2` is -3"
  pub row5-div : div_of 32 (minus 7) 2 ≡ Ok (minus 3)
  -- "(5) [..] `mod -7 2` is -1"
  pub row5-mod : mod_of 32 (minus 7) 2 ≡ Ok (minus 1)
  -- "(6) `bsr -8 1` is 2147483644"
  pub row6-bsr : bsr_of 32 (minus 8) 1 ≡ Ok 2147483644
  -- "(6) [..] `asr -8 1` is -4"
  pub row6-asr : asr_of 32 (minus 8) 1 ≡ Ok (minus 4)
  -- "(7) `"a\\"` is two bytes"
  pub row7 : lex_of Bits32 (34 ∷ 97 ∷ 92 ∷ 92 ∷ 34 ∷ []) ≡ accepted (quoted 0 5 (97 ∷ 92 ∷ []) ∷ [])
  -- "(8) `shl 1 32`", which "becomes 0"
  pub row8 : shl_of 32 1 32 ≡ Ok 0
