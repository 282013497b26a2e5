-- The lexer's group over the WHOLE source: the faults of every token, each judged where it stands, and of what is no token.
-- Assumes nothing.
use Rattle.std.specs.Prelude.{ℕ, zero, suc, List, [], ◌∷◌, length}
use Rattle.base_prelude.specs.Fault.{none}
use Rattle.base_prelude.specs.Walk.{Step, go, stop}
use Rattle.base_limits.specs.declared.Width.{Width}
use Rattle.lex_lexeme.specs.Reading.{next_read}
use Rattle.lex_source.specs.Faults.{fault_of}
use Rattle.lex_source.specs.Lex.{State, state, Outcome, accepted, refused, token_step}

-- the faults behind a token, faulty or not; behind the end and what is no token nothing is read
abbrev pub faults_behind : Step State Outcome → (State → List ℕ) → List ℕ
faults_behind (go q) f = f q
faults_behind (stop r) f = []

-- the faults of what is read from a state on
unfoldable pub token_faults : ℕ → Width → List ℕ → State → List ℕ
token_faults zero w s q = []
token_faults (suc k) w s q =
    fault_of s (length q.tokens) (next_read w s q.at)
    ∷ faults_behind (token_step w s q (next_read w s q.at)) (λ (y : State). token_faults k w s y)

-- the faults of the whole source
unfoldable pub lex_faults : Width → List ℕ → List ℕ
lex_faults w s = token_faults (suc (length s)) w s (state 0 [])

-- the key of an outcome, none where the source is accepted
abbrev pub lex_key : Outcome → ℕ
lex_key (accepted ts) = none
lex_key (refused k) = k
