use Rattle.base_prelude.proofs.Choice.{tests}
use borrow.Author.Rules.{rules}
use Rattle.parse_shapes.proofs.Forms.{listed_by}
use Rattle.parse_shapes.proofs.is_listed.Goals as goal

pub returns-in_default : goal.returns-in_default
returns-in_default c =
    listed_by _ _ (search (tests, rules) depth 16)

pub returns-in_default-2 : goal.returns-in_default-2
returns-in_default-2 c =
    listed_by _ _ (search (tests, rules) depth 16)

pub returns-in_default-3 : goal.returns-in_default-3
returns-in_default-3 c =
    listed_by _ _ (search (tests, rules) depth 16)

pub returns-in-1 : goal.returns-in-1
returns-in-1 c =
    listed_by _ _ (search (tests, rules) depth 16)

pub returns-in-1-2 : goal.returns-in-1-2
returns-in-1-2 c =
    listed_by _ _ (search (tests, rules) depth 16)

pub returns-in-1-3 : goal.returns-in-1-3
returns-in-1-3 c =
    listed_by _ _ (search (tests, rules) depth 16)
