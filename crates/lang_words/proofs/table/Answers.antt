use Rattle.lang_words.specs.Words.{words}
use Rattle.lang_words.specs.Table.{rows_from, rows}
use mathlib.Core.Path.{refl}
use Rattle.lang_words.proofs.table.Goals as goal

pub returns : goal.returns
unfolding words rows_from rows
returns c =
    refl
