use Rattle.lex_spelling.proofs.Loops.{copying, copying-byte}
use Rattle.lex_spelling.proofs.copy_text.Goals as goal

pub loop-k-init : goal.loop-k-init
loop-k-init c =
    search copying

pub returns-in_default : goal.returns-in_default
returns-in_default c =
    search copying

pub loop-k-preserved : goal.loop-k-preserved
loop-k-preserved c =
    search copying

pub returns : goal.returns
returns c =
    search copying

pub narrow-requires : goal.narrow-requires
narrow-requires c =
    search copying-byte
