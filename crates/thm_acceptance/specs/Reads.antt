-- What is read of a source, one after the other: each is judged behind the n tokens before it.
-- Assumes nothing.
use Rattle.std.specs.Prelude.{Option, Some, None, Result, Ok, Err, ℕ, zero, suc, List, length}
use Rattle.base_limits.specs.declared.Width.{Width}
use Rattle.lex_lexeme.specs.Reading.{Reading, next_read}
use Rattle.lex_lexeme.specs.declared.Lexeme.{Lexeme}
use Rattle.lex_lexeme.specs.declared.TokenError.{TokenError}
use Rattle.lex_lexeme.specs.declared.TokenError.TheVariants.{Lone, Broken, Open}

-- what holds behind a token; behind the end and what is no token nothing is read
abbrev pub Behind : Reading → (ℕ → Type 0) → Type 0
Behind (Ok None) P = Unit {0}
Behind (Err (Lone p)) P = Unit {0}
Behind (Err (Broken p)) P = Unit {0}
Behind (Err (Open p)) P = Unit {0}
Behind (Ok (Some x)) P = P x.next

-- of at most so many, from a place on
abbrev pub EachReadFrom : ℕ → Width → List ℕ → (ℕ → Reading → Type 0) → ℕ → ℕ → Type 0
EachReadFrom zero w s P n at = Unit {0}
EachReadFrom (suc left) w s P n at = P n (next_read w s at) × Behind (next_read w s at) (λ (next : ℕ). EachReadFrom left w s P (suc n) next)

abbrev pub EachRead : Width → List ℕ → (ℕ → Reading → Type 0) → Type 0
EachRead w s P = EachReadFrom (suc (length s)) w s P 0 0
