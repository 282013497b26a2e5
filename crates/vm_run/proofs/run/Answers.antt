use Rattle.vm_run.proofs.Cases.{runs, rows_fit, state-running}
use Rattle.vm_run.proofs.run.Goals as goal

pub returns-then-budget-eq0 : goal.returns-then-budget-eq0
returns-then-budget-eq0 c =
    search runs

pub returns-then-count_fault : goal.returns-then-count_fault
returns-then-count_fault c =
    search runs

pub as_running-requires : goal.as_running-requires
as_running-requires c =
    search state-running

pub run_within-requires : goal.run_within-requires
run_within-requires c =
    search rows_fit

pub returns-then-is_running : goal.returns-then-is_running
returns-then-is_running c =
    search runs

pub returns : goal.returns
returns c =
    search runs
