use Rattle.parse_shapes.proofs.Shapes.{forms}
use Rattle.parse_shapes.proofs.form_fits.Goals as goal

pub returns-then-k-lt-SECTION_DATA : goal.returns-then-k-lt-SECTION_DATA
returns-then-k-lt-SECTION_DATA c =
    search forms

pub returns : goal.returns
returns c =
    search forms
