use Rattle.lex_source.proofs.Filling.{fill-steps, fill-at-fits}
use borrow.Author.Rules.{rules}
use Rattle.lex_source.proofs.fill_at.Goals as goal

pub returns-then-k-lt1099511627776 : goal.returns-then-k-lt1099511627776
returns-then-k-lt1099511627776 c =
    search fill-steps

pub fill-requires : goal.fill-requires
fill-requires c =
    search (fill-at-fits, rules)

pub returns : goal.returns
returns c =
    search fill-steps
