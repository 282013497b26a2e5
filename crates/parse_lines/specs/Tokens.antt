-- Total reads of the token table: behind the last row stand zeros, so kind 0 is the source's end.
-- Assumes nothing.
use Rattle.std.specs.Prelude.{ℕ, suc, ◌+◌, ◌*◌, Bool, true, false, List, length, get_or}
use Rattle.base_prelude.specs.Choice.{if_lt, if_eq}
use Rattle.base_prelude.specs.Fault.{key}
use Rattle.base_prelude.specs.Walk.{Step, go, stop, walk}
use Rattle.base_limits.specs.Limits as limits
use Rattle.lang_kinds.specs.Tokens as token
use Rattle.lang_kinds.specs.TokenRow as field

-- word f of token i
unfoldable pub token_word : List ℕ → ℕ → ℕ → ℕ
token_word t i f = get_or t (i * limits.token_row + f) 0

abbrev pub kind_at : List ℕ → ℕ → ℕ
kind_at t i = token_word t i field.kind

abbrev pub value_at : List ℕ → ℕ → ℕ
value_at t i = token_word t i field.value

-- the number of the reserved word, section identifier or substitute
abbrev pub word_at : List ℕ → ℕ → ℕ
word_at t i = token_word t i field.word

-- of an import's name the mark of the host's entry, 0 where the host does not list it
abbrev pub host_at : List ℕ → ℕ → ℕ
host_at t i = token_word t i field.host

-- a token's place; the source's length n at its end
unfoldable pub place_at : List ℕ → ℕ → ℕ → ℕ
place_at t n i = if_eq (kind_at t i) token.source_end n (token_word t i field.first)

-- a fault at a token
unfoldable pub key_at : List ℕ → ℕ → ℕ → ℕ → ℕ
key_at t n i number = key (place_at t n i) number

-- the first token from a place on whose kind is not from lo to before hi
unfoldable pub skip_step : List ℕ → ℕ → ℕ → ℕ → Step ℕ ℕ
skip_step t lo hi i = if_lt (kind_at t i) lo (stop i) (if_lt (kind_at t i) hi (go (i + 1)) (stop i))

unfoldable pub skip : List ℕ → ℕ → ℕ → ℕ → ℕ
skip t lo hi i = walk (skip_step t lo hi) i (suc (length t)) i

-- whether all tokens from i to before next, the end of the line, have a kind from lo to before hi
unfoldable pub all_from : List ℕ → ℕ → ℕ → ℕ → ℕ → Bool
all_from t lo hi i next = if_eq (skip t lo hi i) next true false
