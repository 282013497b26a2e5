use Rattle.vm_statements.proofs.Cases.{word-ways}
use Rattle.vm_operands.proofs.Cases.{word_in}
use borrow.Author.Rules.{rules}
use Rattle.vm_statements.proofs.set_word.Goals as goal

pub returns-in_default : goal.returns-in_default
returns-in_default c =
    search word-ways

pub put_word-requires : goal.put_word-requires
put_word-requires c =
    search (word_in, rules)

pub returns-then-has_word : goal.returns-then-has_word
returns-then-has_word c =
    search word-ways

pub returns : goal.returns
returns c =
    search word-ways
