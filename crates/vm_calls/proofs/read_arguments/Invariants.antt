use Rattle.base_limits.specs.declared.Width.TheVariants.{Bits32}
use Rattle.vm_definitions.specs.Operands.{read_of}
use Rattle.vm_quick_operands.proofs.Reading.{Reading}
use Prim.Native.Nat.{◌*◌}
use Rattle.vm_calls.proofs.read_arguments.Given as goal

abbrev pub invariant-loop-i : goal.invariant-loop-i
invariant-loop-i l =
    Reading (read_of Bits32 l.st l.s l.m) l.t (l.n * 27) l.k l.words l.i
