use Rattle.parse_lines.proofs.Cases.{linear}
use Rattle.parse_lines.proofs.line_kind.Goals as goal

pub returns-then-kind-eq-SYMBOL : goal.returns-then-kind-eq-SYMBOL
returns-then-kind-eq-SYMBOL c =
    search linear

pub returns : goal.returns
returns c =
    search linear
