use Rattle.lex_source.proofs.Finding.{Finding}
use Rattle.lex_source.proofs.find_name.Given as goal

abbrev pub invariant-loop-k : goal.invariant-loop-k
invariant-loop-k l =
    Finding l.s l.t l.n l.hash l.start l.k
