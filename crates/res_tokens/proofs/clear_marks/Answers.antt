use borrow.Author.Rules.{rules}
use Rattle.res_tokens.proofs.Cases.{clearing, clearing-room, clearing-same}
use Rattle.res_tokens.proofs.clear_marks.Goals as goal

pub loop-i-init : goal.loop-i-init
loop-i-init c =
    search clearing

pub bounds-out-i : goal.bounds-out-i
bounds-out-i c =
    search (clearing-room, rules)

pub loop-i-preserved : goal.loop-i-preserved
loop-i-preserved c =
    search clearing

pub shape_of-out : goal.shape_of-out
shape_of-out c =
    search (clearing-same, rules)

pub returns : goal.returns
returns c =
    search clearing
