use Rattle.base_prelude.proofs.Choice.{tests}
use borrow.Author.Rules.{rules}
use Rattle.parse_lines.specs.Lines.{section_kind}
use Rattle.parse_lines.proofs.section_kind.Goals as goal

pub returns-in-52 : goal.returns-in-52
unfolding section_kind
returns-in-52 c =
    search (tests, rules) depth 16

pub returns-in-53 : goal.returns-in-53
unfolding section_kind
returns-in-53 c =
    search (tests, rules) depth 16

pub returns-in-54 : goal.returns-in-54
unfolding section_kind
returns-in-54 c =
    search (tests, rules) depth 16

pub returns-in_default : goal.returns-in_default
unfolding section_kind
returns-in_default c =
    search (tests, rules) depth 16
