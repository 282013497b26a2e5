use Rattle.file_form.proofs.Cases.{form-ways}
use Rattle.file_form.proofs.labels_form.Goals as goal

pub returns-then-end-b : goal.returns-then-end-b
returns-then-end-b c =
    search (form-ways, c.in_ok-end.ensures.0)

pub returns : goal.returns
returns c =
    search (form-ways, c.in_ok-end.ensures.0)

pub returns-in_err-end : goal.returns-in_err-end
returns-in_err-end c =
    rw c.from_residual.ensures (search (form-ways, c.in_err-end.ensures.0))
