use Rattle.base_prelude.proofs.Choice.{tests}
use Rattle.parse_units.specs.Parse.{section_behind}
use Rattle.parse_units.proofs.section_behind.Goals as goal

pub returns-then-k-eq-SECTION_DATA : goal.returns-then-k-eq-SECTION_DATA
unfolding section_behind
returns-then-k-eq-SECTION_DATA c =
    search tests

pub returns-then-k-eq-SECTION_FUNCTIONS : goal.returns-then-k-eq-SECTION_FUNCTIONS
unfolding section_behind
returns-then-k-eq-SECTION_FUNCTIONS c =
    search tests

pub returns-then-k-eq-GROUP : goal.returns-then-k-eq-GROUP
unfolding section_behind
returns-then-k-eq-GROUP c =
    search tests

pub returns-then-k-eq-END_GROUP : goal.returns-then-k-eq-END_GROUP
unfolding section_behind
returns-then-k-eq-END_GROUP c =
    search tests

pub returns : goal.returns
unfolding section_behind
returns c =
    search tests
