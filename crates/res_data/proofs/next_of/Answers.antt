use Rattle.res_data.proofs.Cases.{nexting}
use Rattle.res_data.proofs.next_of.Goals as goal

pub returns-then-k-eq-EDGE : goal.returns-then-k-eq-EDGE
returns-then-k-eq-EDGE c =
    search nexting

pub returns-then-u-end : goal.returns-then-u-end
returns-then-u-end c =
    search nexting

pub returns : goal.returns
returns c =
    search nexting
