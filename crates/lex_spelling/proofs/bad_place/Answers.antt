use mathlib.Core.Path.{refl}
use Rattle.lex_spelling.specs.Escape.{bad_place}
use Rattle.lex_spelling.proofs.bad_place.Goals as goal

pub returns : goal.returns
unfolding bad_place
returns c =
    refl
