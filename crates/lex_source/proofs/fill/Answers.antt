use Rattle.lex_source.proofs.Filling.{filling, reading-fits}
use Rattle.lex_source.proofs.Nested.{at-ok}
use Rattle.lex_source.proofs.fill.Goals as goal

pub returns-in-Ok-None : goal.returns-in-Ok-None
returns-in-Ok-None c =
    let e = at-ok c.in-Ok-None.is (rw c.in-Ok-None.is at c.in-Ok-None.field-0-is) in search filling

pub returns-in-Ok-Some : goal.returns-in-Ok-Some
returns-in-Ok-Some c =
    let e = at-ok c.in-Ok-Some.is (rw c.in-Ok-Some.is at c.in-Ok-Some.field-0-is) in search filling

pub returns-in-Err : goal.returns-in-Err
returns-in-Err c =
    search filling

pub add_token-requires : goal.add_token-requires
add_token-requires c =
    let e = at-ok c.in-Ok-Some.is (rw c.in-Ok-Some.is at c.in-Ok-Some.field-0-is) in search reading-fits
