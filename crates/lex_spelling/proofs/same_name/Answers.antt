use borrow.Author.Rules.{rules}
use Rattle.lex_spelling.proofs.Loops.{comparing, comparing-less}
use Rattle.lex_spelling.proofs.same_name.Goals as goal

pub loop-one-init : goal.loop-one-init
loop-one-init c =
    search (comparing, rules)

pub loop-one-preserved : goal.loop-one-preserved
loop-one-preserved c =
    search (comparing, rules)

pub returns-in-Break : goal.returns-in-Break
returns-in-Break c =
    search (comparing, rules)

pub loop-one-smaller : goal.loop-one-smaller
loop-one-smaller c =
    search comparing-less
