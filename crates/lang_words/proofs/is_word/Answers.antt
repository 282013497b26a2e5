use Rattle.std.proofs.Common.{◌∙◌, refl}
use Rattle.lang_words.specs.Words.{words}
use Rattle.lang_words.specs.Table.{all_letters}
use Rattle.lang_words.proofs.Matching.{part-spelled}
use Rattle.lang_words.proofs.is_word.Goals as goal

pub returns : goal.returns
unfolding words all_letters
returns c =
    c.eq.ensures ∙ part-spelled _ c.args.name.now c.args.row.0 c.args.row.1 refl
