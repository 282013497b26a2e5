use borrow.Author.Rules.{rules}
use Rattle.res_rows.proofs.Tables.{writing, writing-room, writing-same}
use Rattle.res_rows.proofs.write_rows.Goals as goal

pub loop-r-init : goal.loop-r-init
loop-r-init c =
    search writing

pub write_row-requires : goal.write_row-requires
write_row-requires c =
    search (writing-room, rules)

pub loop-r-preserved : goal.loop-r-preserved
loop-r-preserved c =
    search writing

pub shape_of-out : goal.shape_of-out
shape_of-out c =
    search (writing-same, rules)

pub returns : goal.returns
returns c =
    search writing
