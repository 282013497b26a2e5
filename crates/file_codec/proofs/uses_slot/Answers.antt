use Rattle.file_codec.proofs.Cases.{slot-used}
use Rattle.file_codec.proofs.uses_slot.Goals as goal

pub returns : goal.returns
returns c =
    search slot-used
