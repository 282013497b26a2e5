use Rattle.parse_outline.proofs.Cases.{tokening}
use Rattle.parse_outline.proofs.mark_token.Goals as goal

pub returns-then-kind_at-eq-LABEL : goal.returns-then-kind_at-eq-LABEL
returns-then-kind_at-eq-LABEL c =
    search tokening

pub returns : goal.returns
returns c =
    search tokening
