use Rattle.vm_quick_statements.proofs.Cases.{words, word_in}
use Rattle.vm_quick_statements.proofs.set_word.Goals as goal

pub returns-in_err-x : goal.returns-in_err-x
returns-in_err-x c =
    rw c.from_residual.ensures (search (words, c.in_err-x.was))

pub put_word-requires : goal.put_word-requires
put_word-requires c =
    search word_in

pub returns-then-has_word : goal.returns-then-has_word
returns-then-has_word c =
    search (words, c.in_ok-x.was)

pub returns : goal.returns
returns c =
    search (words, c.in_ok-x.was)
