use Rattle.prog_tables.specs.Statement.{row_at}
use Rattle.res_frame_words.proofs.Cases.{Putting}
use Rattle.res_frame_words.proofs.put_words.Given as goal

abbrev pub invariant-loop-n : goal.invariant-loop-n
invariant-loop-n l =
    Putting l.initial.out (row_at l.k) l.c l.out l.n
