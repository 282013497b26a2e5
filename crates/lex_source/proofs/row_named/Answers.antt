use Rattle.lex_source.proofs.Cases.{comparing}
use Rattle.lex_source.proofs.row_named.Goals as goal

pub returns-then-is_named : goal.returns-then-is_named
returns-then-is_named c =
    search comparing

pub returns-then-t-k : goal.returns-then-t-k
returns-then-t-k c =
    search comparing

pub returns : goal.returns
returns c =
    search comparing
