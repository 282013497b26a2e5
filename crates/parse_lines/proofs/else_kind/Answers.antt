use Rattle.parse_lines.proofs.Cases.{elses}
use Rattle.parse_lines.proofs.else_kind.Goals as goal

pub returns-then-kind-lt-LABEL : goal.returns-then-kind-lt-LABEL
returns-then-kind-lt-LABEL c =
    search elses

pub returns-then-kind-eq-SYMBOL : goal.returns-then-kind-eq-SYMBOL
returns-then-kind-eq-SYMBOL c =
    search elses

pub returns : goal.returns
returns c =
    search elses
