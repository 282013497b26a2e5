use Rattle.vm_guard.proofs.Cases.{broken-ways}
use Rattle.vm_guard.proofs.with_record.Goals as goal

pub returns-then-record_good : goal.returns-then-record_good
returns-then-record_good c =
    search broken-ways

pub returns-else-record_good : goal.returns-else-record_good
returns-else-record_good c =
    search broken-ways

pub returns-in-At : goal.returns-in-At
returns-in-At c =
    search broken-ways

pub returns-in-Somewhere : goal.returns-in-Somewhere
returns-in-Somewhere c =
    search broken-ways
