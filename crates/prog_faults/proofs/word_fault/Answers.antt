use Rattle.prog_faults.proofs.Cases.{word-ways}
use Rattle.prog_faults.proofs.word_fault.Goals as goal

pub returns-then-has_word : goal.returns-then-has_word
returns-then-has_word c =
    search word-ways

pub returns : goal.returns
returns c =
    search word-ways
