use borrow.Author.Rules.{rules}
use Rattle.prog_frames.proofs.Arms.{firsts}
use Rattle.prog_frames.proofs.+first_let.Goals as goal

pub returns-then-fuel-eq0 : goal.returns-then-fuel-eq0
returns-then-fuel-eq0 t c =
    search (firsts, rules)

pub returns-then-k-eq-BLOCK : goal.returns-then-k-eq-BLOCK
returns-then-k-eq-BLOCK t c =
    search (firsts, rules)

pub returns : goal.returns
returns t c =
    search (firsts, rules)
