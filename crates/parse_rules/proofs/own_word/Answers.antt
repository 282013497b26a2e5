use Rattle.base_prelude.proofs.Choice.{tests}
use Rattle.parse_rules.proofs.Own.{own-by}
use borrow.Author.Rules.{rules}
use Rattle.parse_rules.proofs.own_word.Goals as goal

pub returns-in-13 : goal.returns-in-13
returns-in-13 c =
    own-by _ _ _ _ (search (tests, rules) depth 16)

pub returns-in-5 : goal.returns-in-5
returns-in-5 c =
    own-by _ _ _ _ (search (tests, rules) depth 16)

pub returns-in_default : goal.returns-in_default
returns-in_default c =
    own-by _ _ _ _ (search (tests, rules) depth 16)

pub returns-in_default-2 : goal.returns-in_default-2
returns-in_default-2 c =
    own-by _ _ _ _ (search (tests, rules) depth 16)

pub returns-in_default-3 : goal.returns-in_default-3
returns-in_default-3 c =
    own-by _ _ _ _ (search (tests, rules) depth 16)

pub returns-in-2 : goal.returns-in-2
returns-in-2 c =
    own-by _ _ _ _ (search (tests, rules) depth 16)
