use Rattle.res_data.proofs.Cases.{Writing}
use Rattle.res_data.proofs.write_number.Given as goal

abbrev pub invariant-loop-k : goal.invariant-loop-k
invariant-loop-k l =
    Writing l.count l.initial.v l.initial.out l.out l.v l.k
