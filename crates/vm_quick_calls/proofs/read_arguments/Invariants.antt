use Prim.Native.Nat.{◌*◌}
use Rattle.vm_quick_operands.specs.Fast.{good_read}
use Rattle.vm_quick_operands.proofs.Reading.{Reading}
use Rattle.vm_quick_calls.proofs.read_arguments.Given as goal

abbrev pub invariant-loop-i : goal.invariant-loop-i
invariant-loop-i l =
    Reading (good_read l.size l.d l.st l.s l.m) l.t (l.n * 27) l.k l.words l.i
