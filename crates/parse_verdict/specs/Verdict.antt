-- The verdict over the WHOLE source: the least fault that any rule finds in any unit, each judged in the state in which it stands.
-- Assumes nothing.
use Rattle.std.specs.Prelude.{ℕ, zero, suc, ◌+◌, ◌<◌, ◌≤◌, ◌≡◌, List, [], ◌∷◌, length, Ok, Err}
use Rattle.base_limits.specs.Limits.{word_values}
use Rattle.base_prelude.specs.Choice.{if_eq}
use Rattle.base_prelude.specs.Fault.{none, least_of}
use Rattle.base_prelude.specs.Lists.{zeros}
use Rattle.base_limits.specs.declared.Width.{Width}
use Rattle.lang_kinds.specs.Kinds as kind
use Rattle.lang_kinds.specs.Tokens as token
use Rattle.parse_lines.specs.Tokens.{kind_at, place_at}
use Rattle.parse_lines.specs.Units.{unit_at}
use Rattle.parse_lines.specs.Lines.{line_kind}
use Rattle.parse_units.specs.Outline.{outline_words}
use Rattle.parse_units.specs.Parse.{World, world, Result, begin, advance, fault_in, parse_of}
use Rattle.parse_units.specs.Verdict.{Verdict}

-- the kind of the unit at which a state stands
unfoldable pub kind_in : List ℕ → World → ℕ
kind_in t x = line_kind t (unit_at t x.state.at).word

-- what the rules find in it
unfoldable pub fault_at : Width → List ℕ → ℕ → World → ℕ
fault_at w t n x = fault_in w t n (unit_at t x.state.at) x

-- the state behind it, whether a rule finds a fault or not
unfoldable pub next_world : List ℕ → ℕ → World → World
next_world t n x = advance t n (unit_at t x.state.at) (kind_in t x) x

-- the faults of the unit at which a state stands and of all behind it, to the source's end
unfoldable pub faults_from : ℕ → Width → List ℕ → ℕ → World → List ℕ
faults_from zero w t n x = []
faults_from (suc k) w t n x = fault_at w t n x ∷ if_eq (kind_in t x) kind.edge [] (faults_from k w t n (next_world t n x))

-- the faults of the whole source
unfoldable pub all_faults : Width → List ℕ → ℕ → List ℕ
all_faults w t n = faults_from (suc (length t)) w t n (world begin (zeros outline_words))

-- the least of them
unfoldable pub verdict_of : Width → List ℕ → ℕ → ℕ
verdict_of w t n = least_of (all_faults w t n)

-- what holds of every fault of a list
abbrev pub All : (ℕ → Type 0) → List ℕ → Type 0
All P [] = Unit {0}
All P (k ∷ ks) = P k × All P ks

-- no rule finds a fault
abbrev pub Clean : List ℕ → Type 0
Clean ks = All (λ (k : ℕ). none ≤ k) ks

-- the key of an answer, none where the source is accepted
abbrev pub key_of : Verdict → ℕ
key_of (Ok x) = none
key_of (Err k) = k

-- what the lexer's tables have: places rise from token to token and end at the source's length, and behind the end no token stands
pub record Rising (t : List ℕ) (n : ℕ) : Type 0 where
  pub rises : (i : ℕ) → token.newline ≤ kind_at t i → place_at t n i < place_at t n (i + 1)
  pub ends : (i : ℕ) → kind_at t i ≡ token.source_end → kind_at t (i + 1) ≡ token.source_end
  pub low : (i : ℕ) → place_at t n i < word_values
