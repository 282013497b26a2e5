use Rattle.vm_calls.proofs.Cases.{addressed}
use Rattle.vm_calls.proofs.call_at.Goals as goal

pub returns-then-has_word : goal.returns-then-has_word
returns-then-has_word c =
    search addressed

pub returns : goal.returns
returns c =
    search addressed
