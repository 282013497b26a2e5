use Rattle.test_calls.proofs.Cases.{do-call-ways}
use Rattle.test_calls.proofs.do_call.Goals as goal

pub returns-then-is_start : goal.returns-then-is_start
returns-then-is_start c =
    search do-call-ways

pub returns-then-starts_with : goal.returns-then-starts_with
returns-then-starts_with c =
    search do-call-ways

pub returns-then-starts_with-2 : goal.returns-then-starts_with-2
returns-then-starts_with-2 c =
    search do-call-ways

pub returns : goal.returns
returns c =
    search do-call-ways
