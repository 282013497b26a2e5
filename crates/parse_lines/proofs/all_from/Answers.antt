use Rattle.parse_lines.proofs.Scans.{all-is}
use Rattle.parse_lines.proofs.all_from.Goals as goal

pub returns : goal.returns
returns c =
    all-is _ _ _ _ _ _ c.skip_kinds.ensures
