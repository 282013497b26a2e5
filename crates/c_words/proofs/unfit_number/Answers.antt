use borrow.Author.Rules.{rules}
use Rattle.base_prelude.proofs.Choice.{tests}
use Rattle.c_words.specs.Reply.{unfit_number}
use Rattle.c_words.proofs.unfit_number.Goals as goal

pub returns-then-budget-eq0 : goal.returns-then-budget-eq0
unfolding unfit_number
returns-then-budget-eq0 c =
    search (rules, tests)

pub returns-else-budget-eq0 : goal.returns-else-budget-eq0
unfolding unfit_number
returns-else-budget-eq0 c =
    search (rules, tests)
