use Rattle.file_form.proofs.Cases.{form-ways, places, counts-fit}
use native.Mathlib.Omega.{arith}
use Rattle.file_form.proofs.data_form.Goals as goal

pub count_word-c-requires : goal.count_word-c-requires
count_word-c-requires c =
    record { 0 = omega arith; 1 = search counts-fit }

pub count_word-l-requires : goal.count_word-l-requires
count_word-l-requires c =
    record { 0 = omega arith; 1 = search counts-fit }

pub count_word-d-requires : goal.count_word-d-requires
count_word-d-requires c =
    record { 0 = omega arith; 1 = search counts-fit }

pub rows_form-requires : goal.rows_form-requires
rows_form-requires c =
    record { 0 = search places; 1 = search places; 2 = search places; 3 = search (places, c.in_ok-end.ensures.0); 4 = search (places, c.in_ok-end.ensures.1) }

pub returns-in_err-end : goal.returns-in_err-end
returns-in_err-end c =
    rw c.from_residual.ensures (search (form-ways, c.in_err-end.ensures.0))
