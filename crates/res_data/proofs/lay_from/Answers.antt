use Rattle.res_data.proofs.Walks.{imaging, imaging-less, imaging-more, imaging-over, imaging-fits}
use Rattle.res_data.proofs.lay_from.Goals as goal

pub loop-y-init : goal.loop-y-init
loop-y-init c =
    search imaging

pub lay_step-requires : goal.lay_step-requires
lay_step-requires c =
    search imaging-fits

pub loop-y-preserved : goal.loop-y-preserved
loop-y-preserved c =
    imaging-more _ _ _ _ _ _ _ _ _ c.loop-y.invariant c.lay_step.ensures _ _ c.in-Ok-Some.is c.in-Ok-Some.field-0-is

pub loop-y-smaller : goal.loop-y-smaller
loop-y-smaller c =
    imaging-less _ _ _ _ _ _ _ _ _ c.loop-y.invariant c.lay_step.ensures _ _ c.in-Ok-Some.is c.in-Ok-Some.field-0-is

pub returns-in-Ok-None : goal.returns-in-Ok-None
returns-in-Ok-None c =
    imaging-over _ _ _ _ _ _ _ _ _ c.loop-y.invariant c.lay_step.ensures _ c.in-Ok-None.is c.in-Ok-None.field-0-is

pub returns-in-Err : goal.returns-in-Err
returns-in-Err c =
    search imaging
