use Rattle.base_word.proofs.Cases.{mod-zero, mod-word}
use Rattle.base_word.proofs.rem.Goals as goal

pub returns-then-b-eq0 : goal.returns-then-b-eq0
returns-then-b-eq0 c =
    search (mod-zero)

pub returns : goal.returns
returns c =
    search (mod-word)
