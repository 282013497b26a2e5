use borrow.Author.Rules.{rules}
use Rattle.lex_source.proofs.Filling.{lexing, lexing-less}
use Rattle.lex_source.proofs.Nested.{at-ok}
use Rattle.lex_source.proofs.lex_from.Goals as goal

pub loop-next-init : goal.loop-next-init
loop-next-init c =
    search (lexing, rules)

pub loop-next-smaller : goal.loop-next-smaller
loop-next-smaller c =
    let e = at-ok c.in-Ok-Some.is c.in-Ok-Some.field-0-is in search lexing-less

pub loop-next-preserved : goal.loop-next-preserved
loop-next-preserved c =
    let e = at-ok c.in-Ok-Some.is c.in-Ok-Some.field-0-is in search lexing

pub returns-in-Ok-None : goal.returns-in-Ok-None
returns-in-Ok-None c =
    let e = at-ok c.in-Ok-None.is c.in-Ok-None.field-0-is in search lexing

pub returns-in-Err : goal.returns-in-Err
returns-in-Err c =
    search lexing
