use borrow.Author.Rules.{rules}
use Rattle.prog_tables.specs.Label.{is_data}
use Rattle.base_prelude.proofs.Choice.{tests}
use Rattle.vm_start.proofs.is_data.Goals as goal

pub returns-then-k-eq-DATA : goal.returns-then-k-eq-DATA
unfolding is_data
returns-then-k-eq-DATA c =
    search (rules, tests)

pub returns-else-k-eq-DATA : goal.returns-else-k-eq-DATA
unfolding is_data
returns-else-k-eq-DATA c =
    search (rules, tests)
