use Rattle.vm_calls.proofs.Cases.{handed}
use Rattle.vm_operands.proofs.Cases.{word_in}
use borrow.Author.Rules.{rules}
use Rattle.vm_calls.proofs.hand_to.Goals as goal

pub put_word-requires : goal.put_word-requires
put_word-requires c =
    search (word_in, rules)

pub returns-then-has_word : goal.returns-then-has_word
returns-then-has_word c =
    search handed

pub returns-then-k-eq-SET_AT : goal.returns-then-k-eq-SET_AT
returns-then-k-eq-SET_AT c =
    search handed

pub returns-then-k-eq-CALL : goal.returns-then-k-eq-CALL
returns-then-k-eq-CALL c =
    search handed

pub returns : goal.returns
returns c =
    search handed
