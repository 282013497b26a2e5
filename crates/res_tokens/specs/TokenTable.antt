-- The lent token table: the tokens' rows, and which statement each token begins.
-- Assumes nothing.
use Rattle.std.specs.Prelude.{ℕ, zero, suc, ◌+◌, ◌*◌, List, ◌++◌, take, drop, set}
use Rattle.base_prelude.specs.Choice.{if_lt}
use Rattle.base_limits.specs.Limits.{token_row}
use Rattle.lang_kinds.specs.TokenRow as field
use Rattle.res_scope.specs.Lines.{first_token}

-- the first m words of t over the front of a buffer
unfoldable pub copied : List ℕ → ℕ → List ℕ → List ℕ
copied t m out = take m t ++ drop m out

-- "Token rows say which statement they begin": statement r of the skeleton k begins at its first token, of n tokens. Word 7 holds its
-- number plus one, as 0 says that the token begins none
unfoldable pub statement_marked : List ℕ → ℕ → ℕ → List ℕ → List ℕ
statement_marked k n r out = if_lt (first_token k r) n (set out (first_token k r * token_row + field.statement) (r + 1)) out

-- statements 0 to c - 1
unfoldable pub statements_marked : ℕ → List ℕ → ℕ → List ℕ → List ℕ
statements_marked zero k n out = out
statements_marked (suc r) k n out = statement_marked k n r (statements_marked r k n out)

-- n rows in which no token begins a statement: the host's marks, which the check keeps in word 7 of its scratch, are gone
unfoldable pub unmarked : ℕ → List ℕ → List ℕ
unmarked zero out = out
unmarked (suc i) out = set (unmarked i out) (i * token_row + field.statement) 0

-- n rows of t, and the c statements that they begin; what is behind them in the buffer is as it was
unfoldable pub token_table : List ℕ → List ℕ → ℕ → ℕ → List ℕ → List ℕ
token_table t k c n out = statements_marked c k n (unmarked n (copied t (n * token_row) out))
