use Rattle.std.proofs.Common.{◌∙◌}
use Rattle.base_prelude.proofs.Lists.{pointwise-same}
use Rattle.base_prelude.proofs.same.Goals as goal

pub returns : goal.returns
returns c =
    c.eq.ensures ∙ pointwise-same c.args.a.now c.args.b.now
