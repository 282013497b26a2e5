use Rattle.parse_units.proofs.Cases.{block-adds}
use Rattle.parse_units.proofs.Cases.{deepening}
use borrow.Author.Rules.{rules}
use Rattle.parse_units.proofs.depth_behind.Goals as goal

pub returns-then-k-eq-FUNCTION : goal.returns-then-k-eq-FUNCTION
returns-then-k-eq-FUNCTION c =
    search deepening

pub overflow_add-result : goal.overflow_add-result
overflow_add-result c =
    search (block-adds, rules)

pub returns-then-k-eq-BLOCK : goal.returns-then-k-eq-BLOCK
returns-then-k-eq-BLOCK c =
    search deepening

pub returns-then-k-eq-END_BLOCK : goal.returns-then-k-eq-END_BLOCK
returns-then-k-eq-END_BLOCK c =
    search deepening

pub returns : goal.returns
returns c =
    search deepening
