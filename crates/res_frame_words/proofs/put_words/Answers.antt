use borrow.Author.Rules.{rules}
use Rattle.res_frame_words.proofs.Cases.{putting, putting-room}
use Rattle.res_frame_words.proofs.put_words.Goals as goal

pub loop-n-init : goal.loop-n-init
loop-n-init c =
    search putting

pub bounds-out-n : goal.bounds-out-n
bounds-out-n c =
    search (putting-room, rules)

pub loop-n-preserved : goal.loop-n-preserved
loop-n-preserved c =
    search putting

pub returns : goal.returns
returns c =
    search putting
