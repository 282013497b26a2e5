use Rattle.vm_pauses.proofs.Cases.{words_of}
use Rattle.vm_pauses.proofs.word_of.Goals as goal

pub returns-then-i-k : goal.returns-then-i-k
returns-then-i-k c =
    search words_of

pub returns : goal.returns
returns c =
    search words_of
