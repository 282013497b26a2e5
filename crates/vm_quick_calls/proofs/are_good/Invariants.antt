use Prim.Native.Nat.{◌*◌}
use Rattle.vm_quick_calls.proofs.Cases.{GoodSoFar}
use Rattle.vm_quick_calls.proofs.are_good.Given as goal

abbrev pub invariant-loop-i : goal.invariant-loop-i
invariant-loop-i l =
    GoodSoFar l.t (l.n * 27) l.size l.d l.k l.i
