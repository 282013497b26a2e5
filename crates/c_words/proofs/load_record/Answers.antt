use Rattle.c_words.proofs.Cases.{load-ways}
use Rattle.c_words.proofs.load_record.Goals as goal

pub returns-then-record-lt-COUNT : goal.returns-then-record-lt-COUNT
returns-then-record-lt-COUNT c =
    search load-ways

pub returns-then-has_state : goal.returns-then-has_state
returns-then-has_state c =
    search load-ways

pub returns : goal.returns
returns c =
    search load-ways
