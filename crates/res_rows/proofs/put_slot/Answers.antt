use Rattle.res_rows.proofs.put_slot.Goals as goal

pub returns : goal.returns
returns c =
    cc
