use Rattle.lang_words.specs.Words.{is_number}
use Rattle.lang_words.proofs.Searching.{Searching}
use Rattle.lang_words.proofs.row_of.Given as goal

abbrev pub invariant-loop-row : goal.invariant-loop-row
invariant-loop-row l =
    Searching l.row-items (is_number l.number) l.row-index
