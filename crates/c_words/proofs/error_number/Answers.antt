use Rattle.c_words.specs.Reply.{error_number}
use Rattle.c_words.proofs.error_number.Goals as goal

pub returns-in-Refused : goal.returns-in-Refused
unfolding error_number
returns-in-Refused c =
    cc

pub returns-in-Unsound : goal.returns-in-Unsound
unfolding error_number
returns-in-Unsound c =
    cc
