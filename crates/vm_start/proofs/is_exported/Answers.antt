use Rattle.vm_start.proofs.Cases.{exported-ways}
use Rattle.vm_start.proofs.is_exported.Goals as goal

pub returns-then-k-eq-EXPORTED_FUNCTION : goal.returns-then-k-eq-EXPORTED_FUNCTION
returns-then-k-eq-EXPORTED_FUNCTION c =
    search exported-ways

pub returns : goal.returns
returns c =
    search exported-ways
