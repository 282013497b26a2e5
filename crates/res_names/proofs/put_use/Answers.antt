use Rattle.res_names.proofs.Cases.{marks}
use Rattle.res_names.proofs.put_use.Goals as goal

pub returns-then-u-w-eq0 : goal.returns-then-u-w-eq0
returns-then-u-w-eq0 c =
    search marks

pub returns-else-u-w-eq0 : goal.returns-else-u-w-eq0
returns-else-u-w-eq0 c =
    search marks
