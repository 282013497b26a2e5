use borrow.Author.Rules.{rules}
use Rattle.res_tokens.proofs.Cases.{marking, marking-room, marking-same}
use Rattle.res_tokens.proofs.mark_statements.Goals as goal

pub loop-r-init : goal.loop-r-init
loop-r-init c =
    search marking

pub mark_statement-requires : goal.mark_statement-requires
mark_statement-requires c =
    search (marking-room, rules)

pub loop-r-preserved : goal.loop-r-preserved
loop-r-preserved c =
    search marking

pub shape_of-out : goal.shape_of-out
shape_of-out c =
    search (marking-same, rules)

pub returns : goal.returns
returns c =
    search marking
