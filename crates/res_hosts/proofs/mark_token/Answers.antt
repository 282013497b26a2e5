use Rattle.res_hosts.proofs.Cases.{tokens, import-room}
use borrow.Author.Rules.{rules}
use Rattle.res_hosts.proofs.mark_token.Goals as goal

pub bounds-t-i : goal.bounds-t-i
bounds-t-i c =
    search (import-room, rules)

pub returns-then-is_import : goal.returns-then-is_import
returns-then-is_import c =
    search tokens

pub returns-else-is_import : goal.returns-else-is_import
returns-else-is_import c =
    search tokens
