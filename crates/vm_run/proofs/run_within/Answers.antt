use Rattle.vm_run.proofs.Cases.{running, running-low, state-running}
use native.Mathlib.Omega.{arith}
use Rattle.vm_run.proofs.run_within.Goals as goal

pub loop-count-init : goal.loop-count-init
loop-count-init c =
    search running

pub returns-then-counted-eq0 : goal.returns-then-counted-eq0
returns-then-counted-eq0 c =
    search running

pub overflow_add-count : goal.overflow_add-count
overflow_add-count c =
    omega (arith, running-low _ _ _ _ _ _ _ _ _ _ _ c.loop-count.invariant _ _ _ c.loop-count-test.true c.advance-o.ensures)

pub as_running-q-requires : goal.as_running-q-requires
as_running-q-requires c =
    search state-running

pub loop-count-preserved : goal.loop-count-preserved
loop-count-preserved c =
    search running

pub returns-else-is_running : goal.returns-else-is_running
returns-else-is_running c =
    search running

pub returns : goal.returns
returns c =
    search running
