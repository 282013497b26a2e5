-- The answer of the check as the tracker gets it: 01's number and values for each case.
-- Assumes nothing.
use Rattle.std.specs.Prelude.{ℕ, ◌%◌, List, [], ◌∷◌, Ok, Err}
use Rattle.base_limits.specs.Limits.{word_values}
use Rattle.base_prelude.specs.Lists.{overlay}
use Rattle.check_source.specs.Check.{Filled}
use Rattle.check_source.specs.Checked.{Checked}

-- 01's number, "Numbers given back"; 0: accepted
unfoldable pub answer_number : Checked → ℕ
answer_number (Ok p) = 0
answer_number (Err r) = r.number

-- number, place, tokens, statements, labels, bytes of data; 0 where the case has none. The words have 32 bits
unfoldable pub result_words : Checked → List ℕ
result_words (Ok p) = 0 ∷ 0 ∷ p.tokens ∷ p.statements ∷ p.labels ∷ p.size ∷ []
result_words (Err r) = r.number ∷ r.place % word_values ∷ 0 ∷ 0 ∷ 0 ∷ 0 ∷ []

-- the number given back, and what the buffers then hold
pub record Told : Type 0 where
  pub number : ℕ
  pub tokens : List ℕ
  pub statements : List ℕ
  pub labels : List ℕ
  pub names : List ℕ
  pub bytes : List ℕ
  pub result : List ℕ

abbrev pub told : ℕ → List ℕ → List ℕ → List ℕ → List ℕ → List ℕ → List ℕ → Told
told number tokens statements labels names bytes result =
    record { number = number; tokens = tokens; statements = statements; labels = labels; names = names; bytes = bytes; result = result }

-- what a check leaves, its answer written over the front of the lent result
unfoldable pub told_of : Filled → List ℕ → Told
told_of x result =
    told (answer_number x.answer) x.tokens x.statements x.labels x.names x.bytes (overlay (result_words x.answer) result)
