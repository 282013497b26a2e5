use borrow.Author.Rules.{rules}
use Rattle.parse_outline.proofs.Cases.{labelling, labelling-fits}
use Rattle.parse_outline.proofs.mark_from.Goals as goal

pub loop-i-init : goal.loop-i-init
loop-i-init c =
    search (labelling, rules)

pub mark_token-c-requires : goal.mark_token-c-requires
mark_token-c-requires c =
    search (labelling-fits, rules)

pub loop-i-preserved : goal.loop-i-preserved
loop-i-preserved c =
    search labelling

pub returns : goal.returns
returns c =
    search labelling
