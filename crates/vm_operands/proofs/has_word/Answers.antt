use Rattle.vm_operands.proofs.Cases.{word-ways}
use Rattle.vm_operands.proofs.has_word.Goals as goal

pub returns-then-a-eq0 : goal.returns-then-a-eq0
returns-then-a-eq0 c =
    search word-ways

pub returns-else-a-eq0 : goal.returns-else-a-eq0
returns-else-a-eq0 c =
    search word-ways
