use Rattle.parse_lines.specs.Units.{unit_at}
use Rattle.parse_lines.proofs.Cases.{newlines-top}
use borrow.Author.Rules.{rules}
use Rattle.parse_lines.proofs.unit_at.Goals as goal

pub span_of-requires : goal.span_of-requires
span_of-requires c =
    search (newlines-top, rules)

pub returns : goal.returns
unfolding unit_at
returns c =
    cc
