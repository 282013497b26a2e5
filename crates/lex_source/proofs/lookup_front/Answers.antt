use Rattle.lex_source.proofs.Rows.{take_long}
use borrow.Author.Rules.{rules}
use Rattle.lex_source.proofs.lookup_front.Goals as goal

pub slice_bounds-lookup_in-end : goal.slice_bounds-lookup_in-end
slice_bounds-lookup_in-end c =
    search (take_long, rules)
