use Rattle.test_lines.proofs.Cases.{line_added}
use Rattle.test_lines.proofs.add_line.Goals as goal

pub returns : goal.returns
returns c =
    search line_added
