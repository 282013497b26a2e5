use Rattle.prog_rules.proofs.Rows.{shallows}
use Rattle.prog_rules.proofs.is_shallow.Goals as goal

pub returns-then-k-eq-BLOCK : goal.returns-then-k-eq-BLOCK
returns-then-k-eq-BLOCK c =
    search shallows

pub returns : goal.returns
returns c =
    search shallows
