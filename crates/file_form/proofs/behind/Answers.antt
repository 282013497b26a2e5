use Rattle.file_form.proofs.Cases.{behind-made}
use Rattle.file_form.proofs.behind.Goals as goal

pub returns : goal.returns
returns c =
    search behind-made
