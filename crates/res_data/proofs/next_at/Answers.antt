use Rattle.res_data.proofs.Walks.{unit-small, next-is}
use borrow.Author.Rules.{rules}
use Rattle.res_data.proofs.next_at.Goals as goal

pub line_kind-k-requires : goal.line_kind-k-requires
line_kind-k-requires c =
    search (unit-small, rules)

pub next_of-requires : goal.next_of-requires
next_of-requires c =
    search (unit-small, rules)

pub returns : goal.returns
returns c =
    search next-is
