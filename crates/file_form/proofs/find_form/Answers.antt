use Rattle.file_form.proofs.Cases.{form-ways, places}
use Rattle.file_form.proofs.find_form.Goals as goal

pub data_form-requires : goal.data_form-requires
data_form-requires c =
    record { 0 = search (places, c.in_ok-end.ensures.0); 1 = search (places, c.in_ok-end.ensures.1) }

pub returns-in_err-end : goal.returns-in_err-end
returns-in_err-end c =
    rw c.from_residual.ensures (search (form-ways, c.in_err-end.ensures.0))
