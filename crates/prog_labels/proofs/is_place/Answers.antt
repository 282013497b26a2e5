use Rattle.prog_labels.proofs.Cases.{row-ways}
use Rattle.prog_labels.proofs.is_place.Goals as goal

pub returns-then-x-ne-PLACE : goal.returns-then-x-ne-PLACE
returns-then-x-ne-PLACE c =
    search row-ways

pub returns-then-kind_at-eq-FUNCTION : goal.returns-then-kind_at-eq-FUNCTION
returns-then-kind_at-eq-FUNCTION c =
    search row-ways

pub returns : goal.returns
returns c =
    search row-ways
