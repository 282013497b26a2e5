use Rattle.file_writer.proofs.Loops.{Packing}
use Rattle.file_writer.proofs.put_row.Given as goal

abbrev pub invariant-loop-j : goal.invariant-loop-j
invariant-loop-j l =
    Packing l.t l.n l.k l.e l.m l.at l.initial.out l.out l.to l.j
