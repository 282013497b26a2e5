use Rattle.prog_scope.proofs.Cases.{noting}
use borrow.Author.Rules.{rules}
use Rattle.prog_scope.proofs.note_let.Goals as goal

pub returns-then-k-ne-LET : goal.returns-then-k-ne-LET
returns-then-k-ne-LET c =
    search (noting, rules)

pub raise-requires : goal.raise-requires
raise-requires c =
    rw c.scope_at-s.ensures (search rules)

pub returns : goal.returns
returns c =
    search (noting, rules)
