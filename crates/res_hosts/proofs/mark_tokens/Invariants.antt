use Rattle.res_hosts.proofs.Cases.{Marking}
use Rattle.res_hosts.proofs.mark_tokens.Given as goal

abbrev pub invariant-loop-i : goal.invariant-loop-i
invariant-loop-i l =
    Marking l.hosts l.names l.s l.n l.initial.t l.t l.i
