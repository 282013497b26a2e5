use Rattle.std.proofs.lemmas.Result.{err_from_is_err_and}
use Rattle.res_data.proofs.Walks.{measuring, measuring-less, measuring-more, measuring-full, measuring-over, measuring-fits}
use Rattle.res_data.proofs.measure_from.Goals as goal

pub loop-y-init : goal.loop-y-init
loop-y-init c =
    search measuring

pub next_at-requires : goal.next_at-requires
next_at-requires c =
    search measuring-fits

pub loop-y-smaller : goal.loop-y-smaller
loop-y-smaller c =
    measuring-less _ _ _ _ _ _ c.loop-y.invariant c.next_at.ensures _ _ c.in_ok-y.was c.in-Some.is

pub loop-y-preserved : goal.loop-y-preserved
loop-y-preserved c =
    measuring-more _ _ _ _ _ _ c.loop-y.invariant c.next_at.ensures _ _ c.in_ok-y.was c.in-Some.is

pub returns-in_err-y : goal.returns-in_err-y
returns-in_err-y c =
    let p = err_from_is_err_and c.from_residual.result c.from_residual.ensures.1 in
    rw (p.1, p.2) (measuring-full _ _ _ _ _ _ c.loop-y.invariant c.next_at.ensures _ c.in_err-y.was)

pub returns : goal.returns
returns c =
    measuring-over _ _ _ _ _ _ c.loop-y.invariant c.next_at.ensures _ c.in_ok-y.was c.in_default.is
