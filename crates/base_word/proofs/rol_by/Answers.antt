use Rattle.std.proofs.Common.{arith, shl_exact}
use Rattle.base_word.proofs.rol_by.Goals as goal

pub returns : goal.returns
returns c =
    rw (shl_exact 32 c.args.n 64 c.ranges.a.fits (omega arith))
