use Rattle.file_form.proofs.Cases.{form-ways, places}
use borrow.Author.Rules.{rules}
use Rattle.file_form.proofs.rows_form.Goals as goal

pub labels_form-requires : goal.labels_form-requires
labels_form-requires c =
    record { 0 = search rules; 1 = search rules; 2 = search rules; 3 = search rules; 4 = search (places, c.in_ok-end.ensures.0); 5 = search (places, c.in_ok-end.ensures.1) }

pub returns-in_err-end : goal.returns-in_err-end
returns-in_err-end c =
    rw c.from_residual.ensures (search (form-ways, c.in_err-end.ensures.0))
