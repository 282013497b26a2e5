-- Two symbols compared character by character.
-- Assumes nothing.
use Rattle.std.specs.Prelude.{ℕ, Bool, true, false, List, Ok, Err}
use Rattle.std.specs.declared.ops.ControlFlow.{ControlFlow}
use Rattle.std.specs.declared.ops.ControlFlow.TheVariants.{Continue, Break}
use Rattle.base_prelude.specs.Choice.{if_eq}
use Rattle.lex_spelling.specs.Text.{Character, character_at}

-- what comparing goes on to, the places behind both, or whether both end
abbrev pub Paired : Type 0
Paired = ControlFlow Bool (ℕ × ℕ)

unfoldable pub pair_one : ℕ → ℕ → Character → Paired
pair_one value next (Ok y) = if_eq value y.value (Continue (next, y.next)) (Break false)
pair_one value next (Err e) = Break false

unfoldable pub pair_end : Character → Paired
pair_end (Ok y) = Break false
pair_end (Err e) = Break true

-- both go on with the same byte, they differ, or both end
unfoldable pub pair_of : Character → Character → Paired
pair_of (Ok x) b = pair_one x.value x.next b
pair_of (Err e) b = pair_end b

unfoldable pub pair_at : List ℕ → ℕ → ℕ → Paired
pair_at s i j = pair_of (character_at false s i) (character_at false s j)
