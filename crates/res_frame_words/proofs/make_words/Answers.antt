use Rattle.res_frame_words.proofs.Cases.{words_are}
use borrow.Author.Rules.{rules}
use Rattle.res_frame_words.proofs.make_words.Goals as goal

pub returns : goal.returns
returns c =
    search (words_are, rules)
