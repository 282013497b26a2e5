use Rattle.file_form.proofs.Cases.{fits-ways}
use Rattle.file_form.proofs.fits.Goals as goal

pub returns-then-tag-eq-ROW : goal.returns-then-tag-eq-ROW
returns-then-tag-eq-ROW c =
    search fits-ways

pub returns-then-tag-eq-LABEL : goal.returns-then-tag-eq-LABEL
returns-then-tag-eq-LABEL c =
    search fits-ways

pub returns : goal.returns
returns c =
    search fits-ways
