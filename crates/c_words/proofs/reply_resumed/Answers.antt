use Rattle.c_words.proofs.Cases.{resumed-ways}
use Rattle.c_words.proofs.reply_resumed.Goals as goal

pub returns-then-o : goal.returns-then-o
returns-then-o c =
    search resumed-ways

pub returns : goal.returns
returns c =
    search resumed-ways
