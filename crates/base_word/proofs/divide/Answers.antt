use Rattle.base_word.proofs.Laws.{magnitude-pos}
use Rattle.std.proofs.Common.{arith}
use Rattle.base_word.proofs.divide.Goals as goal

pub nonzero_div-magnitude_of : goal.nonzero_div-magnitude_of
nonzero_div-magnitude_of c =
    omega (arith, magnitude-pos 32 c.args.b (omega arith) (omega arith))

pub returns : goal.returns
returns c =
    cc
