use Rattle.prog_labels.proofs.Cases.{name-ways}
use Rattle.prog_labels.proofs.names_good.Goals as goal

pub returns-then-is_data : goal.returns-then-is_data
returns-then-is_data c =
    search name-ways

pub returns-then-x-eq-IMPORT : goal.returns-then-x-eq-IMPORT
returns-then-x-eq-IMPORT c =
    search name-ways

pub returns-then-v-c : goal.returns-then-v-c
returns-then-v-c c =
    search name-ways

pub returns : goal.returns
returns c =
    search name-ways
