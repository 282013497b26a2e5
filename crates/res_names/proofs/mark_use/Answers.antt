use Rattle.res_names.proofs.Cases.{marks}
use Rattle.res_names.proofs.mark_use.Goals as goal

pub returns-then-w-u : goal.returns-then-w-u
returns-then-w-u c =
    search marks

pub returns-else-w-u : goal.returns-else-w-u
returns-else-w-u c =
    search marks
