use Rattle.file_tables.proofs.Cases.{Naming}
use Rattle.file_tables.proofs.unpack_name.Given as goal

abbrev pub invariant-loop-j : goal.invariant-loop-j
invariant-loop-j l =
    Naming l.x l.initial.names l.at l.names l.j
