use Rattle.base_prelude.proofs.Lists.{zeroed-part}
use Rattle.base_prelude.proofs.clear_from.Goals as goal

pub returns : goal.returns
returns c =
    zeroed-part c.args.t.now c.args.from c.fill.new.self c.requires (c.fill.ensures.after (λ y e. e))
