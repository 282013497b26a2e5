use Rattle.base_word.proofs.Cases.{div-zero, div-lacks, div_word}
use Rattle.base_word.proofs.div.Goals as goal

pub returns-then-b-eq0 : goal.returns-then-b-eq0
returns-then-b-eq0 c =
    search (div-zero)

pub returns-then-lacks_word : goal.returns-then-lacks_word
returns-then-lacks_word c =
    search (div-lacks)

pub returns : goal.returns
returns c =
    search (div_word)
