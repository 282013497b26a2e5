use Rattle.c_words.proofs.Cases.{keep-ways}
use Rattle.c_words.proofs.keep_record.Goals as goal

pub returns-then-is_changed : goal.returns-then-is_changed
returns-then-is_changed c =
    search keep-ways

pub returns-else-is_changed : goal.returns-else-is_changed
returns-else-is_changed c =
    search keep-ways
