-- The decoded bytes of a symbol or a string.
-- Assumes nothing.
use Rattle.std.specs.Prelude.{ℕ, zero, suc, ◌+◌, ◌*◌, ◌%◌, Bool, true, false, List, [], ◌∷◌, length, Result, Ok, Err}
use Rattle.base_limits.specs.Limits.{word_values}
use Rattle.base_prelude.specs.Choice.{if_lt, if_eq, if_true}
use Rattle.base_prelude.specs.Bytes.{byte_at}
use Rattle.lex_spelling.specs.Classes.{is_name_byte}
use Rattle.lex_spelling.specs.Continuation.{joined}
use Rattle.lex_spelling.specs.Escape.{decoded, escape_at}
use Rattle.lex_spelling.specs.declared.Decoded.{Decoded}
use Rattle.lex_spelling.specs.declared.Ending.{Ending}
use Rattle.lex_spelling.specs.declared.Ending.TheVariants.{Stopped, Broken}
use Rattle.lex_spelling.specs.declared.Spelled.{Spelled}

-- a character of a text, or where and how the text ends
abbrev pub Character : Type 0
Character = Result Decoded Ending

-- "A string may hold any raw byte but 10, `"` and a lone backslash."
unfoldable pub in_string : ℕ → ℕ → Character
in_string c at =
    if_eq c 34 (Err (Stopped at)) (if_eq c 10 (Err (Stopped at)) (if_lt c 256 (Ok (decoded c (at + 1))) (Err (Stopped at))))

unfoldable pub in_symbol : ℕ → ℕ → Character
in_symbol c at = if_true (is_name_byte c) (Ok (decoded c (at + 1))) (Err (Stopped at))

unfoldable pub escaped : Result Decoded ℕ → Character
escaped (Ok x) = Ok x
escaped (Err place) = Err (Broken place)

-- a raw byte of a string (quoted) or of a symbol
unfoldable pub raw_at : Bool → ℕ → ℕ → Character
raw_at quoted c at = if_true quoted (in_string c at) (in_symbol c at)

unfoldable pub character_from : Bool → List ℕ → ℕ → Character
character_from quoted s at = if_eq (byte_at s at) 92 (escaped (escape_at s at)) (raw_at quoted (byte_at s at) at)

-- the character at a place, continuations read as if they were not there
unfoldable pub character_at : Bool → List ℕ → ℕ → Character
character_at quoted s at = character_from quoted s (joined s at)

-- decoded bytes, and where and how they end
pub record Text : Type 0 where
  pub bytes : List ℕ
  pub ending : Ending

-- the place at which a text ends
abbrev pub end_of : Ending → ℕ
end_of (Stopped place) = place
end_of (Broken place) = place

unfoldable pub spell_more : Character → (ℕ → Text) → Text
spell_more (Ok x) rest = record { bytes = x.value ∷ (rest x.next).bytes; ending = (rest x.next).ending }
spell_more (Err e) rest = record { bytes = []; ending = e }

unfoldable pub spelled_within : ℕ → Bool → List ℕ → ℕ → Text
spelled_within zero quoted s at = record { bytes = []; ending = Stopped at }
spelled_within (suc k) quoted s at = spell_more (character_at quoted s at) (λ next. spelled_within k quoted s next)

-- the text from a place on
unfoldable pub spelled_at : Bool → List ℕ → ℕ → Text
spelled_at quoted s at = spelled_within (suc (length s)) quoted s at

-- the decoded bytes of the symbol that starts at a place
unfoldable pub name_at : List ℕ → ℕ → List ℕ
name_at s at = (spelled_at false s at).bytes

-- the decoded bytes of the string whose opening quote stands before a place
unfoldable pub string_at : List ℕ → ℕ → List ℕ
string_at s at = (spelled_at true s at).bytes

-- a hash of bytes, modulo 2 ^ 32
unfoldable pub mix : ℕ → ℕ → ℕ
mix h v = (h * 16777619 + v) % word_values

unfoldable pub hash_from : ℕ → List ℕ → ℕ
hash_from h [] = h
hash_from h (v ∷ vs) = hash_from (mix h v) vs

abbrev pub hash_of : List ℕ → ℕ
hash_of vs = hash_from 0 vs

-- what the code keeps of a text, some bytes having gone before
unfoldable pub measured_from : ℕ → ℕ → Text → Spelled
measured_from size hash t = record { size = size + length t.bytes; hash = hash_from hash t.bytes; ending = t.ending }

unfoldable pub measured : Text → Spelled
measured t = record { size = length t.bytes; hash = hash_of t.bytes; ending = t.ending }
