use Rattle.prog_scope.proofs.Cases.{helds}
use Rattle.prog_scope.proofs.next_word.Goals as goal

pub returns : goal.returns
returns c =
    search helds
