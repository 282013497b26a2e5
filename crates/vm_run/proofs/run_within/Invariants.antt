use Prim.Native.Nat.{◌-◌}
use Rattle.vm_definitions.specs.Lent.{world}
use Rattle.vm_run.proofs.Cases.{RunSoFar}
use Rattle.vm_run.proofs.run_within.Given as goal

abbrev pub invariant-loop-count : goal.invariant-loop-count
invariant-loop-count l =
    RunSoFar l.t l.c l.l l.lc l.d l.budget (world l.initial.q l.initial.st l.initial.m) l.q l.st l.m l.count

abbrev pub decreases-loop-count : goal.decreases-loop-count
decreases-loop-count l =
    l.budget - l.count
