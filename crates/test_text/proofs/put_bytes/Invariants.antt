use Rattle.test_text.proofs.Loops.{Bytes}
use Rattle.test_text.proofs.put_bytes.Given as goal

abbrev pub invariant-loop-f : goal.invariant-loop-f
invariant-loop-f l =
    Bytes l.l l.count l.at l.n l.initial.m l.m l.i l.f
