use Rattle.parse_units.proofs.Cases.{picks}
use Rattle.parse_units.proofs.own_or.Goals as goal

pub returns-then-k-eq-FUNCTION : goal.returns-then-k-eq-FUNCTION
returns-then-k-eq-FUNCTION c =
    search picks

pub returns : goal.returns
returns c =
    search picks
