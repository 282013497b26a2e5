use Rattle.file_writer.proofs.Ways.{fit-ways}
use Rattle.file_writer.proofs.fit.Goals as goal

pub returns-then-out-length : goal.returns-then-out-length
returns-then-out-length c =
    search fit-ways

pub returns : goal.returns
returns c =
    search fit-ways
