use Rattle.base_prelude.proofs.Choice.{tests}
use borrow.Author.Rules.{rules}
use Rattle.parse_lines.specs.Lines.{end_kind}
use Rattle.parse_lines.proofs.end_kind.Goals as goal

pub returns-in-9 : goal.returns-in-9
unfolding end_kind
returns-in-9 c =
    search (tests, rules) depth 16

pub returns-in-10 : goal.returns-in-10
unfolding end_kind
returns-in-10 c =
    search (tests, rules) depth 16

pub returns-in-13 : goal.returns-in-13
unfolding end_kind
returns-in-13 c =
    search (tests, rules) depth 16

pub returns-in-8 : goal.returns-in-8
unfolding end_kind
returns-in-8 c =
    search (tests, rules) depth 16

pub returns-in_default : goal.returns-in_default
unfolding end_kind
returns-in_default c =
    search (tests, rules) depth 16
