use Rattle.file_codec.proofs.Cases.{part-ways}
use Rattle.file_codec.proofs.uses_callee.Goals as goal

pub returns-then-k-eq-BLOCK : goal.returns-then-k-eq-BLOCK
returns-then-k-eq-BLOCK c =
    search part-ways

pub returns-then-is_call : goal.returns-then-is_call
returns-then-is_call c =
    search part-ways

pub returns : goal.returns
returns c =
    search part-ways
