use Rattle.lex_spelling.proofs.Loops.{spelling, spelling-less}
use Rattle.lex_spelling.proofs.spell.Goals as goal

pub loop-x-init : goal.loop-x-init
loop-x-init c =
    search spelling

pub loop-x-preserved : goal.loop-x-preserved
loop-x-preserved c =
    search spelling

pub returns-in-Err : goal.returns-in-Err
returns-in-Err c =
    search spelling

pub loop-x-smaller : goal.loop-x-smaller
loop-x-smaller c =
    search spelling-less
