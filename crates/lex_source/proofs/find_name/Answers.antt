use Rattle.lex_source.proofs.Finding.{finding}
use Rattle.lex_source.proofs.find_name.Goals as goal

pub loop-k-init : goal.loop-k-init
loop-k-init c =
    search finding

pub returns-then-row_named : goal.returns-then-row_named
returns-then-row_named c =
    search finding

pub loop-k-preserved : goal.loop-k-preserved
loop-k-preserved c =
    search finding

pub returns : goal.returns
returns c =
    search finding
