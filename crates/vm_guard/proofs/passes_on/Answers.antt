use Rattle.vm_guard.proofs.Cases.{passes-ways}
use Rattle.vm_guard.proofs.passes_on.Goals as goal

pub returns-then-is_first : goal.returns-then-is_first
returns-then-is_first c =
    search passes-ways

pub returns-then-is_called : goal.returns-then-is_called
returns-then-is_called c =
    search passes-ways

pub returns : goal.returns
returns c =
    search passes-ways
