use Rattle.std.proofs.Common.{arith, le-leb}
use borrow.Author.Tests.{lt-leb}
use Rattle.base_word.proofs.magnitude_of.Goals as goal

pub returns-then-a-ge2147483648 : goal.returns-then-a-ge2147483648
returns-then-a-ge2147483648 c =
    simp (le-leb _ _ c.if-a-ge2147483648.true) (omega arith)

pub returns-else-a-ge2147483648 : goal.returns-else-a-ge2147483648
returns-else-a-ge2147483648 c =
    simp (lt-leb _ _ c.if-a-ge2147483648.false)
