use Rattle.lang_words.proofs.Substituting.{substitutes}
use Rattle.lang_words.proofs.substitute.Goals as goal

pub returns-then-same : goal.returns-then-same
returns-then-same c =
    search substitutes

pub returns-then-same-2 : goal.returns-then-same-2
returns-then-same-2 c =
    search substitutes

pub returns-then-same-3 : goal.returns-then-same-3
returns-then-same-3 c =
    search substitutes

pub returns : goal.returns
returns c =
    search substitutes
