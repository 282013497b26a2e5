use borrow.Author.Rules.{rules}
use Rattle.res_labels.proofs.Cases.{naming, names-room}
use Rattle.res_labels.proofs.write_names.Goals as goal

pub loop-j-init : goal.loop-j-init
loop-j-init c =
    search naming

pub write_name-requires : goal.write_name-requires
write_name-requires c =
    search (names-room, rules)

pub loop-j-preserved : goal.loop-j-preserved
loop-j-preserved c =
    search naming

pub returns : goal.returns
returns c =
    search naming
