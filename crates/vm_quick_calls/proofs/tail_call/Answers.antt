use Rattle.vm_quick_calls.proofs.Cases.{tailing, tail-high}
use Rattle.vm_quick_calls.proofs.tail_call.Goals as goal

pub returns-then-e-ne-CALL : goal.returns-then-e-ne-CALL
returns-then-e-ne-CALL c =
    search tailing

pub returns-then-m-top : goal.returns-then-m-top
returns-then-m-top c =
    tail-high _ _ _ _ _ _ _ _ _ _ _ c.expression_at-e.ensures c.if-e-ne-CALL.false _ c.word_at-top.ensures c.if-m-top.true

pub returns : goal.returns
returns c =
    search tailing
