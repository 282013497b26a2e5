use borrow.Author.Rules.{rules}
use Rattle.res_rows.proofs.Tables.{slotting, slots-room, slots_same}
use Rattle.res_rows.proofs.put_slots.Goals as goal

pub loop-j-init : goal.loop-j-init
loop-j-init c =
    search slotting

pub put_slot-requires : goal.put_slot-requires
put_slot-requires c =
    search (slots-room, rules)

pub loop-j-preserved : goal.loop-j-preserved
loop-j-preserved c =
    search slotting

pub shape_of-out : goal.shape_of-out
shape_of-out c =
    search (slots_same, rules)

pub returns : goal.returns
returns c =
    search slotting
