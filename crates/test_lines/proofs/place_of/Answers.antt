use Rattle.std.proofs.Common.{rules}
use Rattle.test_lines.proofs.Loops.{placing}
use Rattle.test_lines.proofs.place_of.Goals as goal

pub returns-then-seen-k : goal.returns-then-seen-k
returns-then-seen-k c =
    search placing

pub returns : goal.returns
returns c =
    search (placing, rules)
