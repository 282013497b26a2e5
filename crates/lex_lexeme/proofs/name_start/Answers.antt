use Rattle.lex_spelling.proofs.Ends.{joined-top}
use Rattle.lex_lexeme.proofs.Cases.{name-starting}
use Prim.Native.Nat.{◌+◌}
use native.Mathlib.Omega.{arith}
use Rattle.lex_lexeme.proofs.name_start.Goals as goal

pub returns-then-kind-lt-SUBSTITUTE : goal.returns-then-kind-lt-SUBSTITUTE
returns-then-kind-lt-SUBSTITUTE c =
    search name-starting

pub overflow_add-join : goal.overflow_add-join
overflow_add-join c =
    omega (arith, joined-top c.args.s.now (c.args.first + 1))

pub returns-then-kind-eq-AT_SUBSTITUTE : goal.returns-then-kind-eq-AT_SUBSTITUTE
returns-then-kind-eq-AT_SUBSTITUTE c =
    search name-starting

pub returns : goal.returns
returns c =
    search name-starting
