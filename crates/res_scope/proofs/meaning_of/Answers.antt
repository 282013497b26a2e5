use Rattle.res_scope.proofs.Cases.{meanings}
use Rattle.res_scope.proofs.meaning_of.Goals as goal

pub returns-then-m-eq0 : goal.returns-then-m-eq0
returns-then-m-eq0 c =
    search meanings

pub returns : goal.returns
returns c =
    search meanings
