-- The tokens of a source, or its refusal: "Check order: 1; 2 to 6 with 14 for tokens".
-- Assumes nothing.
use Rattle.std.specs.Prelude.{Some, None, Result, Ok, Err, ℕ, suc, List, [], ◌∷◌, ◌++◌, length}
use Rattle.base_prelude.specs.Choice.{if_lt}
use Rattle.base_prelude.specs.Fault.{none, key, key_place, key_number}
use Rattle.base_prelude.specs.Lists.{zeros}
use Rattle.base_prelude.specs.Walk.{Step, go, stop, walk}
use Rattle.base_limits.specs.Limits.{source_bytes, token_words}
use Rattle.base_limits.specs.declared.Width.{Width}
use Rattle.lex_lexeme.specs.Reading.{Reading, next_read}
use Rattle.lex_lexeme.specs.declared.TokenError.TheVariants.{Lone, Broken, Open}
use Rattle.lex_source.specs.Token.{Token, token_of}
use Rattle.lex_source.specs.Faults.{fault_of}
use Rattle.lex_source.specs.Rows.{token_table}
use Rattle.base_limits.specs.declared.Refusal.{Refusal}

pub record State : Type 0 where
  pub at : ℕ
  pub tokens : List Token

abbrev pub state : ℕ → List Token → State
state at tokens = record { at = at; tokens = tokens }

-- the tokens of the source, or a fault
pub data Outcome : Type 0 where
  accepted : List Token → Outcome
  refused : ℕ → Outcome

-- what is read has no fault: a token more, or the end; what is no token always has one, and of a bad escape "no token is read from
-- it on"
unfoldable pub token_step : Width → List ℕ → State → Reading → Step State Outcome
token_step w s q (Ok None) = stop (accepted q.tokens)
token_step w s q (Err (Lone p)) = stop (refused none)
token_step w s q (Err (Broken p)) = stop (refused none)
token_step w s q (Err (Open p)) = stop (refused none)
token_step w s q (Ok (Some x)) = go (state x.next (q.tokens ++ (token_of w s q.tokens x ∷ [])))

-- the first token with a fault decides
unfoldable pub read_step : Width → List ℕ → State → Reading → Step State Outcome
read_step w s q r = if_lt (fault_of s (length q.tokens) r) none (stop (refused (fault_of s (length q.tokens) r))) (token_step w s q r)

unfoldable pub lex_step : Width → List ℕ → State → Step State Outcome
lex_step w s q = read_step w s q (next_read w s q.at)

unfoldable pub tokens_from : Width → List ℕ → State → Outcome
tokens_from w s q = walk (lex_step w s) (refused none) (suc (length s)) q

-- 1: "source too long: 16,384"
unfoldable pub lex_of : Width → List ℕ → Outcome
lex_of w s = if_lt source_bytes (length s) (refused (key source_bytes 1)) (tokens_from w s (state 0 []))

-- how many tokens, or 01's number and place
abbrev pub Lexed : Type 0
Lexed = Result ℕ Refusal

-- the answer
unfoldable pub answer_of : Outcome → Lexed
answer_of (accepted ts) = Ok (length ts)
answer_of (refused k) = Err (record { number = key_number k; place = key_place k })

-- 01's number of an answer, 0 where it is none
abbrev pub refusal_number : Lexed → ℕ
refusal_number (Ok n) = 0
refusal_number (Err e) = e.number

-- the whole table: rows, then zeros; all zeros on a refusal
unfoldable pub table_of : Outcome → List ℕ
table_of (accepted ts) = token_table ts
table_of (refused k) = zeros token_words
