use Rattle.lang_words.proofs.Sectioning.{knowing}
use Rattle.lang_words.proofs.known.Goals as goal

pub returns-then-k-eq0 : goal.returns-then-k-eq0
returns-then-k-eq0 c =
    search knowing

pub returns : goal.returns
returns c =
    search knowing
