-- What holds of an answer's word, if it has one.
-- Assumes nothing.
use Rattle.std.specs.Prelude.{Err, Ok}
use Rattle.std.specs.Prelude.{ℕ, ◌^◌, ◌<◌}
use Rattle.base_word.specs.Word.{Answer}
use Rattle.base_word.specs.declared.WordError.TheVariants.{Division, Shift}

abbrev pub OfWord : (ℕ → Type 0) → Answer → Type 0
OfWord P (Ok r) = P r
OfWord P (Err Division) = Unit {0}
OfWord P (Err Shift) = Unit {0}

-- the word is below 2 ^ w
abbrev pub WordBelow : ℕ → Answer → Type 0
WordBelow w = OfWord (λ (r : ℕ). r < 2 ^ w)
