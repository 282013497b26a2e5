-- What the code asks of a state before it goes on.
-- Assumes nothing.
use Rattle.std.specs.Prelude.{◌≡◌, List, ℕ, ◌+◌, ◌≤◌, ◌<◌, length}
use Rattle.base_limits.specs.Limits as limits
use Rattle.lang_kinds.specs.Kinds as kind
use Rattle.lang_kinds.specs.Nesting.{rows_of}
use Rattle.parse_lines.specs.declared.Span.{Span}
use Rattle.parse_units.specs.Outline.{outline_words}
use Rattle.parse_units.specs.declared.State.{State}

pub record StepFits (rows : List ℕ) (u : Span) (k : ℕ) (s : State) : Type 0 where
  pub long : length rows ≡ outline_words
  pub near : u.word ≤ limits.tokens + 1
  pub few : s.labels ≤ limits.tokens + 1
  pub room : s.count + rows_of k ≤ limits.statements + 1
  pub lets : k ≡ kind.let_local → s.locals < limits.locals
  pub deep : k ≡ kind.block → s.depth < limits.block_depth

pub record UnitStepFits (t rows : List ℕ) (s : State) : Type 0 where
  pub tokens : length t ≡ limits.token_words
  pub long : length rows ≡ outline_words
  pub near : s.at ≤ limits.tokens + 1
  pub few : s.labels ≤ limits.tokens + 1
  pub free : s.count ≤ limits.statements + 1
