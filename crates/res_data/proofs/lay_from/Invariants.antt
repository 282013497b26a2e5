use Prim.Native.Nat.{◌-◌}
use Rattle.res_data.proofs.Walks.{Imaging}
use Rattle.res_data.proofs.lay_from.Given as goal

abbrev pub invariant-loop-y : goal.invariant-loop-y
invariant-loop-y l =
    Imaging l.w l.s l.t l.initial.c l.initial.out l.c l.out

abbrev pub decreases-loop-y : goal.decreases-loop-y
decreases-loop-y l =
    4097 - l.c.at
