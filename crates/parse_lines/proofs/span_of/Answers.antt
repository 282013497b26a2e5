use Rattle.parse_lines.specs.Units.{span_of}
use Rattle.parse_lines.proofs.Cases.{labels-top}
use borrow.Author.Rules.{rules}
use Rattle.parse_lines.proofs.span_of.Goals as goal

pub span_from-requires : goal.span_from-requires
span_from-requires c =
    search (labels-top, rules)

pub returns : goal.returns
unfolding span_of
returns c =
    cc
