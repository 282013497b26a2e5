use Rattle.std.proofs.Common.{◌∙◌, arith}
use Rattle.test_text.proofs.Loops.{kept}
use Rattle.test_text.proofs.keep_memory.Goals as goal

pub returns : goal.returns
returns c =
    rw (← c.at_most.ensures.value) (c.copy_within.ensures.after ∙ kept 65537 c.at_most.result c.args.m.now c.at_most.ensures.upper_bound (omega arith))
