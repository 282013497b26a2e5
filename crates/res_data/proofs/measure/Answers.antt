use Rattle.res_data.specs.Sizes.{measure_of}
use Rattle.res_data.proofs.Walks.{first_fits}
use borrow.Author.Rules.{rules}
use Rattle.res_data.proofs.measure.Goals as goal

pub measure_from-requires : goal.measure_from-requires
measure_from-requires c =
    search (first_fits, rules)

pub returns : goal.returns
unfolding measure_of
returns c =
    cc
