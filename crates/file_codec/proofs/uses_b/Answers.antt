use Rattle.file_codec.proofs.Cases.{part-ways}
use Rattle.file_codec.proofs.uses_b.Goals as goal

pub returns-then-k-eq-FUNCTION : goal.returns-then-k-eq-FUNCTION
returns-then-k-eq-FUNCTION c =
    search part-ways

pub returns : goal.returns
returns c =
    search part-ways
