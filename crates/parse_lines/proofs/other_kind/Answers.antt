use Rattle.base_prelude.proofs.Choice.{tests}
use borrow.Author.Rules.{rules}
use Rattle.parse_lines.specs.Lines.{other_kind}
use Rattle.parse_lines.proofs.other_kind.Goals as goal

pub returns-in-0 : goal.returns-in-0
unfolding other_kind
returns-in-0 c =
    search (tests, rules) depth 16

pub returns-in-4 : goal.returns-in-4
unfolding other_kind
returns-in-4 c =
    search (tests, rules) depth 16

pub returns-in_default : goal.returns-in_default
unfolding other_kind
returns-in_default c =
    search (tests, rules) depth 16

pub returns-in_default-2 : goal.returns-in_default-2
unfolding other_kind
returns-in_default-2 c =
    search (tests, rules) depth 16
