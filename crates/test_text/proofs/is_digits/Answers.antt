use Rattle.test_text.proofs.Loops.{testing}
use Rattle.test_text.proofs.is_digits.Goals as goal
use Rattle.test_text.proofs.is_digits.Goals.{then-c-lt48-via-then-c-lt48, then-c-lt48-via-else-c-lt48+then-c-gt57}

pub returns-then-c-lt48 : goal.returns-then-c-lt48
returns-then-c-lt48 c =
    elim c.then-c-lt48.branch [
      | then-c-lt48-via-then-c-lt48 w ↦ search testing
      | then-c-lt48-via-else-c-lt48+then-c-gt57 w ↦ search testing
    ]

pub loop-i-preserved : goal.loop-i-preserved
loop-i-preserved c =
    search testing
