use Rattle.lang_words.proofs.Searching.{named-fits, naming}
use Rattle.lang_words.proofs.lookup.Goals as goal

pub loop-row-init : goal.loop-row-init
loop-row-init c =
    search naming

pub is_word-requires : goal.is_word-requires
is_word-requires c =
    search (named-fits)

pub returns-then-is_word : goal.returns-then-is_word
returns-then-is_word c =
    search naming

pub loop-row-preserved : goal.loop-row-preserved
loop-row-preserved c =
    search naming

pub returns : goal.returns
returns c =
    search naming
