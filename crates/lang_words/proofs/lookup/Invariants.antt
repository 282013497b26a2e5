use Rattle.lang_words.specs.Words.{is_spelled}
use Rattle.lang_words.proofs.Searching.{Searching}
use Rattle.lang_words.proofs.lookup.Given as goal

abbrev pub invariant-loop-row : goal.invariant-loop-row
invariant-loop-row l =
    Searching l.row-items (is_spelled l.name) l.row-index
