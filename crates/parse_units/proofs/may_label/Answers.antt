use Rattle.parse_units.proofs.Labelled.{maying}
use Rattle.parse_units.proofs.may_label.Goals as goal

pub returns-then-g-eq-BEFORE_SECTIONS : goal.returns-then-g-eq-BEFORE_SECTIONS
returns-then-g-eq-BEFORE_SECTIONS c =
    search maying

pub returns-then-g-eq-FUNCTIONS_SECTION : goal.returns-then-g-eq-FUNCTIONS_SECTION
returns-then-g-eq-FUNCTIONS_SECTION c =
    search maying

pub returns-then-g-lt-IN_FUNCTION : goal.returns-then-g-lt-IN_FUNCTION
returns-then-g-lt-IN_FUNCTION c =
    search maying

pub returns-then-g-lt-PAST_GROUNDS : goal.returns-then-g-lt-PAST_GROUNDS
returns-then-g-lt-PAST_GROUNDS c =
    search maying

pub returns-then-kind-eq-SYMBOL : goal.returns-then-kind-eq-SYMBOL
returns-then-kind-eq-SYMBOL c =
    search maying

pub returns : goal.returns
returns c =
    search maying
