use Rattle.prog_tables.proofs.Cases.{word_none}
use Rattle.prog_tables.proofs.word_at.Goals as goal

pub returns-else-i-t : goal.returns-else-i-t
returns-else-i-t c =
    search word_none
