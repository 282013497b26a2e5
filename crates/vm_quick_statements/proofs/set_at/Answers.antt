use Rattle.vm_quick_statements.proofs.Cases.{ats, word_in}
use borrow.Author.Rules.{rules}
use Rattle.vm_quick_statements.proofs.set_at.Goals as goal

pub returns-then-k-gt-ADDRESS : goal.returns-then-k-gt-ADDRESS
returns-then-k-gt-ADDRESS c =
    search ats

pub returns-in_err-a : goal.returns-in_err-a
returns-in_err-a c =
    rw c.from_residual.ensures (search (ats, c.in_err-a.was))

pub store_at-requires : goal.store_at-requires
store_at-requires c =
    (search rules, search rules, search rules, search rules, search word_in)

pub returns-then-has_word : goal.returns-then-has_word
returns-then-has_word c =
    search (ats, c.in_ok-a.was)

pub returns : goal.returns
returns c =
    search (ats, c.in_ok-a.was)
