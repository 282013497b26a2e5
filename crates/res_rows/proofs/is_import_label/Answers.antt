use Rattle.res_rows.proofs.is_import_label.Goals as goal

pub returns : goal.returns
returns c =
    cc
