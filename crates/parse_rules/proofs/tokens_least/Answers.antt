use Rattle.parse_rules.proofs.Loops.{tokening}
use Rattle.parse_rules.proofs.tokens_least.Goals as goal

pub loop-i-init : goal.loop-i-init
loop-i-init c =
    search tokening

pub loop-i-preserved : goal.loop-i-preserved
loop-i-preserved c =
    search tokening

pub returns : goal.returns
returns c =
    search tokening
