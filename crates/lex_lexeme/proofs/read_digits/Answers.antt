use Rattle.lex_lexeme.proofs.Digits.{counting, counting-less}
use Rattle.lex_lexeme.proofs.read_digits.Goals as goal

pub loop-x-init : goal.loop-x-init
loop-x-init c =
    search counting

pub loop-x-smaller : goal.loop-x-smaller
loop-x-smaller c =
    search counting-less

pub loop-x-preserved : goal.loop-x-preserved
loop-x-preserved c =
    search counting

pub returns-in-Err : goal.returns-in-Err
returns-in-Err c =
    search counting
