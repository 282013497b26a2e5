use Rattle.test_lines.specs.Lines.{one_more}
use Rattle.std.proofs.Common.{rules}
use Rattle.test_lines.proofs.one_more.Goals as goal

pub returns : goal.returns
unfolding one_more
returns c =
    search rules
