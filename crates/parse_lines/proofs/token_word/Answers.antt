use Rattle.parse_lines.proofs.Scans.{reading}
use borrow.Author.Rules.{rules}
use Rattle.parse_lines.proofs.token_word.Goals as goal

pub returns-then-at-t : goal.returns-then-at-t
returns-then-at-t c =
    search (reading, rules)

pub returns-else-at-t : goal.returns-else-at-t
returns-else-at-t c =
    search (reading, rules)
