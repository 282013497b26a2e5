use Rattle.lang_words.proofs.Searching.{numbering}
use Rattle.lang_words.proofs.row_of.Goals as goal

pub loop-row-init : goal.loop-row-init
loop-row-init c =
    search numbering

pub returns-then-row-number : goal.returns-then-row-number
returns-then-row-number c =
    search numbering

pub loop-row-preserved : goal.loop-row-preserved
loop-row-preserved c =
    search numbering

pub returns : goal.returns
returns c =
    search numbering
