use Rattle.parse_rules.proofs.Cases.{stands}
use borrow.Author.Rules.{rules}
use Rattle.parse_rules.proofs.reserved_label.Goals as goal

pub returns-then-w-lt-PAST_WORDS : goal.returns-then-w-lt-PAST_WORDS
returns-then-w-lt-PAST_WORDS c =
    search (stands, rules)

pub returns : goal.returns
returns c =
    search (stands, rules)
