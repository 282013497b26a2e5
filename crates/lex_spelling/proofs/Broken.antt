-- Where a text is broken, an escape breaks.
-- Assumes nothing.
use mathlib.Core.Path.{◌≡◌}
use mathlib.Core.Bool.{Bool}
use mathlib.Core.List.{List}
use Prim.Native.Nat.{ℕ, zero, suc}
use lib.ListN.{length}
use Rattle.base_prelude.specs.Bytes.{byte_at}
use Rattle.base_prelude.proofs.Choice.{either, either-eq, either_true}
use Rattle.lex_spelling.specs.Classes.{is_name_byte}
use Rattle.lex_spelling.specs.Continuation.{joined}
use Rattle.lex_spelling.specs.Escape.{escape_at}
use Rattle.lex_spelling.specs.Breaks.{EscapeBreaks}
use Rattle.lex_spelling.specs.Text.{Character, in_string, in_symbol, escaped, raw_at, character_from, character_at, Text, spell_more, spelled_within, spelled_at}
use Rattle.std.proofs.Common.{Result, Ok, Err}
use Rattle.lex_spelling.specs.declared.Decoded.{Decoded}
use Rattle.lex_spelling.specs.declared.Ending.{Ending}
use Rattle.lex_spelling.specs.declared.Ending.TheVariants.{Stopped, Broken}
use Rattle.lex_spelling.proofs.Breaks.{EscapeSound, escape-sound}

abbrev pub EndingBreaks : List ℕ → Ending → Type 0
EndingBreaks s (Stopped place) = Unit {0}
EndingBreaks s (Broken place) = EscapeBreaks s place

abbrev CharacterBreaks : List ℕ → Character → Type 0
CharacterBreaks s (Ok x) = Unit {0}
CharacterBreaks s (Err e) = EndingBreaks s e

escaped-breaks : (s : List ℕ) (at : ℕ) (x : Result Decoded ℕ) → byte_at s at ≡ 92 → EscapeSound s at x → CharacterBreaks s (escaped x)
unfolding escaped
escaped-breaks s at (Ok x) e h = tt
escaped-breaks s at (Err place) e h = (at, e, h)

raw-breaks : (q : Bool) (s : List ℕ) (c at : ℕ) → CharacterBreaks s (raw_at q c at)
unfolding raw_at in_string in_symbol
raw-breaks q s c at =
    either_true (CharacterBreaks s) q _ _
    (λ _. either-eq (CharacterBreaks s) c 34 _ _ (λ _. tt) (λ _.
    either-eq (CharacterBreaks s) c 10 _ _ (λ _. tt) (λ _.
    either (CharacterBreaks s) c 256 _ _ (λ _. tt) (λ _. tt))))
    (λ _. either_true (CharacterBreaks s) (is_name_byte c) _ _ (λ _. tt) (λ _. tt))

from-breaks : (q : Bool) (s : List ℕ) (at : ℕ) → CharacterBreaks s (character_from q s at)
unfolding character_from
from-breaks q s at =
    either-eq (CharacterBreaks s) (byte_at s at) 92 _ _
    (λ e. escaped-breaks s at (escape_at s at) e (escape-sound s at e))
    (λ _. raw-breaks q s (byte_at s at) at)

more-breaks : (s : List ℕ) (x : Character) (rest : ℕ → Text) → CharacterBreaks s x → ((n : ℕ) → EndingBreaks s (rest n).ending) → EndingBreaks s (spell_more x rest).ending
unfolding spell_more
more-breaks s (Ok x) rest h f = f x.next
more-breaks s (Err e) rest h f = h

within-breaks : (k : ℕ) (q : Bool) (s : List ℕ) (at : ℕ) → EndingBreaks s (spelled_within k q s at).ending
unfolding spelled_within character_at
within-breaks zero q s at = tt
within-breaks (suc k) q s at =
    more-breaks s (character_at q s at) (λ n. spelled_within k q s n) (from-breaks q s (joined s at)) (λ n. within-breaks k q s n)

pub text-breaks : (q : Bool) (s : List ℕ) (at : ℕ) → EndingBreaks s (spelled_at q s at).ending
unfolding spelled_at
text-breaks q s at = within-breaks (suc (length s)) q s at
