use Rattle.base_prelude.proofs.Choice.{tests}
use Rattle.res_data.specs.Sizes.{fill_of}
use Rattle.res_data.proofs.Cases.{rest-low}
use borrow.Author.Rules.{rules}
use Rattle.res_data.proofs.fill_of.Goals as goal

pub returns-then-n-eq0 : goal.returns-then-n-eq0
unfolding fill_of
returns-then-n-eq0 c =
    search tests

pub overflow_sub-result : goal.overflow_sub-result
overflow_sub-result c =
    search (rest-low, rules)

pub returns : goal.returns
unfolding fill_of
returns c =
    search tests
