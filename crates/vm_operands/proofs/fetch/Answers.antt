use Rattle.vm_operands.proofs.Cases.{fetch-ways, word_in}
use borrow.Author.Rules.{rules}
use Rattle.vm_operands.proofs.fetch.Goals as goal

pub load-requires : goal.load-requires
load-requires c =
    search (word_in, rules)

pub returns-then-has_word : goal.returns-then-has_word
returns-then-has_word c =
    search fetch-ways

pub returns-else-has_word : goal.returns-else-has_word
returns-else-has_word c =
    search fetch-ways
