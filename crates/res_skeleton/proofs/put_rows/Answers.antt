use borrow.Author.Rules.{rules}
use Rattle.res_skeleton.proofs.Cases.{putting, putting-room}
use Rattle.res_skeleton.proofs.put_rows.Goals as goal

pub loop-n-init : goal.loop-n-init
loop-n-init c =
    search putting

pub put_statement-requires : goal.put_statement-requires
put_statement-requires c =
    search (putting-room, rules)

pub loop-n-preserved : goal.loop-n-preserved
loop-n-preserved c =
    search putting

pub returns : goal.returns
returns c =
    search putting
