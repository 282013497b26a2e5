use Rattle.lex_source.proofs.Cases.{faulting}
use Rattle.lex_source.proofs.range_fault.Goals as goal

pub returns-then-is_some : goal.returns-then-is_some
returns-then-is_some c =
    search faulting

pub returns : goal.returns
returns c =
    search faulting
