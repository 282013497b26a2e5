use Rattle.res_names.proofs.Cases.{statement-is}
use Rattle.res_scope.proofs.Cases.{first-low}
use borrow.Author.Rules.{rules}
use Rattle.res_names.proofs.statement_part.Goals as goal

pub parts_of-p-requires : goal.parts_of-p-requires
parts_of-p-requires c =
    search (first-low, rules)

pub returns : goal.returns
returns c =
    search statement-is
