-- What the proofs of this crate share.
-- Assumes nothing.
use Rattle.std.proofs.Common.{ℕ, ◌+◌, ◌*◌, ◌^◌, ◌<◌, Bool, true, false, lt_of_le_of_lt, le_of_lt, mul-le-mul_left, mul-lt-mul_of_pos_right, arith, pow_pos, pow-add, le-ltb, lt-ltb, eq-eqb, ne_eqb, le-leb}
use borrow.Author.Tests.{lt-leb}
use Rattle.base_prelude.specs.Choice.{pick}
use Rattle.base_word.specs.Word.{negative, magnitude}

choice-pos : (s : Bool) {m n : ℕ} → 0 < m → 0 < n → 0 < pick s m n
choice-pos true p q = p
choice-pos false p q = q

-- a word that is not 0 has a magnitude that is not 0
pub magnitude-pos : (w a : ℕ) → 0 < a → a < 2 ^ w → 0 < magnitude w a
magnitude-pos w a p q = choice-pos (negative w a) (omega arith) p

-- a test of the code as the test of a definition
pub ruleset tests = (lt-ltb, le-ltb, le-leb, lt-leb, eq-eqb, ne_eqb)
