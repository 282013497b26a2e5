use Rattle.file_codec.proofs.Counts.{row_fits_lem}
use Rattle.file_codec.proofs.row_fits.Goals as goal

pub returns : goal.returns
returns c =
    search row_fits_lem
