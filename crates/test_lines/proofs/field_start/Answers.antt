use Rattle.test_lines.proofs.Loops.{fielding}
use Rattle.test_lines.proofs.field_start.Goals as goal

pub returns-then-blanks-k-clause-value : goal.returns-then-blanks-k-clause-value
returns-then-blanks-k-clause-value c =
    search fielding

pub returns-clause-value : goal.returns-clause-value
returns-clause-value c =
    search fielding
