use Rattle.vm_statements.proofs.Cases.{addressed, address_is}
use Rattle.vm_operands.proofs.Cases.{word_in}
use borrow.Author.Rules.{rules}
use Rattle.vm_statements.proofs.assign_at.Goals as goal

pub assign_word-requires : goal.assign_word-requires
assign_word-requires c =
    (search rules, search rules, search rules, search (word_in, rules), search address_is)

pub returns-then-has_word : goal.returns-then-has_word
returns-then-has_word c =
    search addressed

pub returns : goal.returns
returns c =
    search addressed
