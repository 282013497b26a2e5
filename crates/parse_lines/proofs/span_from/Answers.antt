use Rattle.parse_lines.specs.Units.{span_from}
use Rattle.parse_lines.proofs.span_from.Goals as goal

pub returns : goal.returns
unfolding span_from
returns c =
    cc
