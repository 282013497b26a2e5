use Rattle.file_tables.proofs.Cases.{Unpacking}
use Rattle.file_tables.proofs.unpack_words.Given as goal

abbrev pub invariant-loop-j : goal.invariant-loop-j
invariant-loop-j l =
    Unpacking l.k l.e l.n l.x l.initial.t l.at l.t l.p l.j
