use Rattle.vm_calls.proofs.Reading.{work-row}
use Rattle.vm_calls.proofs.work.Goals as goal

pub returns : goal.returns
returns c =
    search work-row
