use Rattle.parse_rules.proofs.Cases.{heads}
use borrow.Author.Rules.{rules}
use Rattle.parse_rules.proofs.is_head.Goals as goal

pub returns-then-w-eq-CALL : goal.returns-then-w-eq-CALL
returns-then-w-eq-CALL c =
    search (heads, rules)

pub returns-else-w-eq-CALL : goal.returns-else-w-eq-CALL
returns-else-w-eq-CALL c =
    search (heads, rules)

pub returns-else-is_name : goal.returns-else-is_name
returns-else-is_name c =
    search (heads, rules)
