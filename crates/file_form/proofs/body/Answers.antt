use Rattle.file_form.proofs.Cases.{body-cut}
use Rattle.file_form.proofs.body.Goals as goal

pub returns-clause-value : goal.returns-clause-value
returns-clause-value c =
    search body-cut
