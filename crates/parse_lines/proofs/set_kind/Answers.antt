use Rattle.base_prelude.proofs.Choice.{tests}
use borrow.Author.Rules.{rules}
use Rattle.parse_lines.specs.Lines.{set_kind}
use Rattle.parse_lines.proofs.set_kind.Goals as goal

pub returns-in_default : goal.returns-in_default
unfolding set_kind
returns-in_default c =
    search (tests, rules) depth 16

pub returns-in_default-2 : goal.returns-in_default-2
unfolding set_kind
returns-in_default-2 c =
    search (tests, rules) depth 16

pub returns-in-5 : goal.returns-in-5
unfolding set_kind
returns-in-5 c =
    search (tests, rules) depth 16

pub returns-in-5-2 : goal.returns-in-5-2
unfolding set_kind
returns-in-5-2 c =
    search (tests, rules) depth 16
