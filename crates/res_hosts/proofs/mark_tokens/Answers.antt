use borrow.Author.Rules.{rules}
use Rattle.res_hosts.proofs.Cases.{walking, marking-room, marking-same}
use Rattle.res_hosts.proofs.mark_tokens.Goals as goal

pub loop-i-init : goal.loop-i-init
loop-i-init c =
    search walking

pub mark_token-requires : goal.mark_token-requires
mark_token-requires c =
    search (marking-room, rules)

pub loop-i-preserved : goal.loop-i-preserved
loop-i-preserved c =
    search walking

pub shape_of-t : goal.shape_of-t
shape_of-t c =
    search (marking-same, rules)

pub returns : goal.returns
returns c =
    search walking
