use Rattle.file_codec.proofs.Counts.{label-fits}
use Rattle.file_codec.proofs.label_fits.Goals as goal

pub returns : goal.returns
returns c =
    search label-fits
