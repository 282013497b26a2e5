use Rattle.lex_source.proofs.Cases.{faulting}
use Rattle.lex_source.proofs.limit_fault.Goals as goal

pub returns-then-n-lt-TOKENS : goal.returns-then-n-lt-TOKENS
returns-then-n-lt-TOKENS c =
    search faulting

pub returns : goal.returns
returns c =
    search faulting
