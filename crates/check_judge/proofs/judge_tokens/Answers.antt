use mathlib.Core.Path.{refl}
use Rattle.std.proofs.lemmas.Result.{err_from_is_err_and}
use Rattle.check_judge.proofs.Cases.{lines-refused, names-refused, size-fine, size-big, lines-few}
use Rattle.check_judge.proofs.judge_tokens.Goals as goal

pub make_skeleton-requires : goal.make_skeleton-requires
make_skeleton-requires c =
    lines-few _ _ _ _ _ _ _ refl c.in_ok-p.ensures c.requires

pub returns-in_err-p : goal.returns-in_err-p
returns-in_err-p c =
    let p = err_from_is_err_and c.from_residual.result c.from_residual.ensures.1 in
    rw (p.1, p.2) (lines-refused _ _ _ _ _ _ _ _ c.in_err-p.ensures _ refl)

pub returns-then-fault-lt-NONE : goal.returns-then-fault-lt-NONE
returns-then-fault-lt-NONE c =
    rw c.refusal_of.ensures (names-refused _ _ _ _ _ _ _ _ c.in_ok-p.ensures _ _ refl c.make_skeleton.ensures _ _ c.names_fault-fault.ensures c.if-fault-lt-NONE.true)

pub returns-in-Ok : goal.returns-in-Ok
returns-in-Ok c =
    size-fine _ _ _ _ _ _ _ _ c.in_ok-p.ensures _ _ refl c.make_skeleton.ensures _ _ c.names_fault-fault.ensures c.if-fault-lt-NONE.false _ c.in-Ok.ensures _ refl

pub returns-in-Err : goal.returns-in-Err
returns-in-Err c =
    size-big _ _ _ _ _ _ _ _ c.in_ok-p.ensures _ _ refl c.make_skeleton.ensures _ _ c.names_fault-fault.ensures c.if-fault-lt-NONE.false _ c.in-Err.ensures _ _ refl c.place_at.ensures
