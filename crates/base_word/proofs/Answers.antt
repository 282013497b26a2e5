-- What holds of an answer holds of its word, and of a choice what holds of both arms.
-- Assumes nothing.
use Rattle.std.proofs.Common.{Ok}
use Rattle.std.proofs.Common.{◌≡◌, ℕ, ◌^◌, ◌<◌, Bool, true, false, refl, subst}
use Rattle.base_prelude.specs.Choice.{pick}
use Rattle.base_word.specs.Answers.{OfWord, WordBelow}
use Rattle.base_word.specs.Word.{Answer}

pub of_word : (P : ℕ → Type 0) (r : ℕ) (x : Answer) → OfWord P x → x ≡ Ok r → P r
of_word P r x p e = subst (OfWord P) e p

pub word_below : (w r : ℕ) (x : Answer) → WordBelow w x → x ≡ Ok r → r < 2 ^ w
word_below w r x p e = of_word (λ (n : ℕ). n < 2 ^ w) r x p e

-- what holds of both arms holds of the choice
pub choice : {X : Type 0} (P : X → Type 0) (s : Bool) (x y : X) → (s ≡ true → P x) → (s ≡ false → P y) → P (pick s x y)
choice P true x y p q = p refl
choice P false x y p q = q refl
