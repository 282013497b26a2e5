use Rattle.lex_spelling.proofs.Cases.{characters, from-mapped}
use Rattle.lex_spelling.proofs.character_from.Goals as goal

pub returns-then-c-eq92 : goal.returns-then-c-eq92
returns-then-c-eq92 c =
    from-mapped _ _ _ _ _ _ c.byte_at-c.ensures c.if-c-eq92.true c.escape.ensures c.map_err.ensures.cases

pub returns : goal.returns
returns c =
    search characters
