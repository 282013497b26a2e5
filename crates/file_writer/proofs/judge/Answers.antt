use Rattle.file_writer.proofs.Ways.{judge-ways}
use Rattle.file_writer.proofs.judge.Goals as goal

pub returns-then-past_limits : goal.returns-then-past_limits
returns-then-past_limits c =
    search judge-ways

pub returns-else-past_limits : goal.returns-else-past_limits
returns-else-past_limits c =
    search judge-ways

pub returns-in_default : goal.returns-in_default
returns-in_default c =
    search judge-ways
