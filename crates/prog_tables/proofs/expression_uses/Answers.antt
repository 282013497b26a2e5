use Rattle.prog_tables.proofs.Cases.{uses}
use Rattle.prog_tables.proofs.expression_uses.Goals as goal

pub returns-then-e-eq-PLAIN : goal.returns-then-e-eq-PLAIN
returns-then-e-eq-PLAIN c =
    search uses

pub returns-then-e-eq-CALL : goal.returns-then-e-eq-CALL
returns-then-e-eq-CALL c =
    search uses

pub returns-then-e-eq-IMPORT : goal.returns-then-e-eq-IMPORT
returns-then-e-eq-IMPORT c =
    search uses

pub returns-then-e-eq-AUTO_BYTES : goal.returns-then-e-eq-AUTO_BYTES
returns-then-e-eq-AUTO_BYTES c =
    search uses

pub returns-then-e-eq-AUTO_WORDS : goal.returns-then-e-eq-AUTO_WORDS
returns-then-e-eq-AUTO_WORDS c =
    search uses

pub returns-then-e-eq-NOT : goal.returns-then-e-eq-NOT
returns-then-e-eq-NOT c =
    search uses

pub returns-then-is_operator : goal.returns-then-is_operator
returns-then-is_operator c =
    search uses

pub returns : goal.returns
returns c =
    search uses
