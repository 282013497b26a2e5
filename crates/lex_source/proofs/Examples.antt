-- What is read behind a bad escape.
-- Assumes nothing.
use mathlib.Core.Path.{◌≡◌, refl}
use mathlib.Core.List.{[], ◌∷◌}
use Rattle.base_prelude.specs.Fault.{none}
use Rattle.base_prelude.specs.Walk.{stop}
use Rattle.base_limits.specs.declared.Width.TheVariants.{Bits32}
use Rattle.std.proofs.Common.{Err}
use Rattle.lex_lexeme.specs.declared.TokenError.TheVariants.{Broken}
use Rattle.lex_source.specs.Lex.{state, refused, token_step}

-- `\;`, which breaks at `;`: no token is read from there on
nothing-behind : token_step Bits32 (92 ∷ 59 ∷ []) (state 0 []) (Err (Broken 1)) ≡ stop (refused none)
unfolding token_step
nothing-behind = refl
