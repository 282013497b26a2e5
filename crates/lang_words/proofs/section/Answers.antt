use Rattle.lang_words.proofs.Sectioning.{sections}
use Rattle.lang_words.proofs.section.Goals as goal

pub returns-then-same : goal.returns-then-same
returns-then-same c =
    search sections

pub returns-then-same-2 : goal.returns-then-same-2
returns-then-same-2 c =
    search sections

pub returns-then-same-3 : goal.returns-then-same-3
returns-then-same-3 c =
    search sections

pub returns : goal.returns
returns c =
    search sections
