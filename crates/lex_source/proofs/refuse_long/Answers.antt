use Rattle.lex_source.proofs.Filling.{clear-all}
use borrow.Author.Rules.{rules}
use Rattle.lex_source.proofs.refuse_long.Goals as goal

pub returns : goal.returns
returns c =
    search (clear-all, rules)
