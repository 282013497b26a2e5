use Rattle.parse_rules.proofs.Loops.{Tokening}
use Rattle.parse_rules.proofs.tokens_least.Given as goal

abbrev pub invariant-loop-i : goal.invariant-loop-i
invariant-loop-i l =
    Tokening l.t l.n l.own l.from l.next l.best l.i
