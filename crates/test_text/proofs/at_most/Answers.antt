use Rattle.std.proofs.Common.{◌∙◌}
use Rattle.test_text.proofs.Cases.{lesser-min}
use Rattle.test_text.proofs.at_most.Goals as goal

pub returns-clause-value : goal.returns-clause-value
returns-clause-value c =
    c.min.ensures ∙ lesser-min _ _
