use Rattle.lex_spelling.proofs.Ends.{joining, joins-less}
use Rattle.lex_spelling.proofs.join.Goals as goal

pub loop-i-init : goal.loop-i-init
loop-i-init c =
    search joining

pub loop-i-preserved : goal.loop-i-preserved
loop-i-preserved c =
    search joining

pub returns-else-is_joint : goal.returns-else-is_joint
returns-else-is_joint c =
    search joining

pub returns-after-loop-i : goal.returns-after-loop-i
returns-after-loop-i c =
    search joining

pub loop-i-smaller : goal.loop-i-smaller
loop-i-smaller c =
    search joins-less
