use borrow.Author.Rules.{rules}
use Rattle.parse_units.proofs.Cases.{let-adds}
use Rattle.base_prelude.proofs.Choice.{tests}
use Rattle.parse_units.specs.Parse.{locals_behind}
use Rattle.parse_units.proofs.locals_behind.Goals as goal

pub returns-then-k-eq-FUNCTION : goal.returns-then-k-eq-FUNCTION
unfolding locals_behind
returns-then-k-eq-FUNCTION c =
    search tests

pub overflow_add-result : goal.overflow_add-result
overflow_add-result c =
    search (let-adds, rules)

pub returns-then-k-eq-LET : goal.returns-then-k-eq-LET
unfolding locals_behind
returns-then-k-eq-LET c =
    search tests

pub returns-then-k-eq-END_BLOCK : goal.returns-then-k-eq-END_BLOCK
unfolding locals_behind
returns-then-k-eq-END_BLOCK c =
    search tests

pub returns : goal.returns
unfolding locals_behind
returns c =
    search tests
