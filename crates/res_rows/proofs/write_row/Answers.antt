use Rattle.res_scope.proofs.Cases.{first-low}
use Rattle.res_rows.proofs.Tables.{row_written}
use borrow.Author.Rules.{rules}
use Rattle.res_rows.proofs.write_row.Goals as goal

pub parts_of-p-requires : goal.parts_of-p-requires
parts_of-p-requires c =
    search (first-low, rules)

pub put_parts-requires : goal.put_parts-requires
put_parts-requires c =
    search (first-low, rules)

pub returns : goal.returns
returns c =
    search row_written
