use Rattle.lex_lexeme.proofs.Cases.{reads, next-token}
use Rattle.lex_lexeme.proofs.next_token.Goals as goal

pub returns-then-i-s : goal.returns-then-i-s
returns-then-i-s c =
    next-token _ _ _ _ c.gap_end-i.ensures _ _ c.if-i-s.true c.read_token.ensures c.map.ensures.cases

pub returns : goal.returns
returns c =
    search reads
