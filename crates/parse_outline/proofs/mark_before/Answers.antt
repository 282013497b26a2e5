use Rattle.parse_outline.specs.Labels.{mark_before}
use Rattle.parse_outline.proofs.mark_before.Goals as goal

pub returns : goal.returns
unfolding mark_before
returns c =
    cc
