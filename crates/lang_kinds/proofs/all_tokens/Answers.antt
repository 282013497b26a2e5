use Rattle.lang_kinds.specs.Tokens.{tokens_of}
use mathlib.Core.Path.{refl}
use Rattle.lang_kinds.proofs.all_tokens.Goals as goal

pub returns : goal.returns
unfolding tokens_of
returns c =
    refl
