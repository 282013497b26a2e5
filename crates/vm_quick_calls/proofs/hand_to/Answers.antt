use Rattle.vm_quick_calls.proofs.Cases.{handing-to, to_high, to-apart, to-bad}
use Rattle.vm_quick_calls.proofs.hand_to.Goals as goal

pub returns-then-m-back : goal.returns-then-m-back
returns-then-m-back c =
    to_high _ _ _ _ _ _ _ _ _ _ _ _ _ c.word_at-caller.ensures c.word_at-back.ensures c.if-m-back.true

pub returns-then-is_call_good : goal.returns-then-is_call_good
returns-then-is_call_good c =
    search handing-to

pub returns-then-caller-z : goal.returns-then-caller-z
returns-then-caller-z c =
    to-bad _ _ _ _ _ _ _ _ _ _ _ _ _ c.word_at-caller.ensures c.word_at-back.ensures _ c.if-m-back.false c.if-caller-z.true c.is_call_good.ensures c.if-is_call_good.false

pub returns : goal.returns
returns c =
    to-apart _ _ _ _ _ _ _ _ _ _ _ _ _ c.word_at-caller.ensures c.word_at-back.ensures c.if-m-back.false c.if-caller-z.false
