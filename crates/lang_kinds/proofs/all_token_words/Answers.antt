use Rattle.lang_kinds.specs.TokenRow.{token_row_of}
use mathlib.Core.Path.{refl}
use Rattle.lang_kinds.proofs.all_token_words.Goals as goal

pub returns : goal.returns
unfolding token_row_of
returns c =
    refl
