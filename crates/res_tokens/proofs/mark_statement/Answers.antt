use Rattle.res_tokens.proofs.Cases.{beginning}
use Rattle.res_tokens.proofs.mark_statement.Goals as goal

pub returns-then-i-n : goal.returns-then-i-n
returns-then-i-n c =
    search beginning

pub returns-else-i-n : goal.returns-else-i-n
returns-else-i-n c =
    search beginning
