use borrow.Author.Rules.{rules}
use Rattle.res_labels.proofs.Cases.{rowing, rows-room}
use Rattle.res_labels.proofs.write_rows.Goals as goal

pub loop-j-init : goal.loop-j-init
loop-j-init c =
    search rowing

pub write_row-requires : goal.write_row-requires
write_row-requires c =
    search (rows-room, rules)

pub loop-j-preserved : goal.loop-j-preserved
loop-j-preserved c =
    search rowing

pub returns : goal.returns
returns c =
    search rowing
