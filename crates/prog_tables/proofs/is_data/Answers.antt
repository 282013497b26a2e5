use native.Mathlib.Omega.{arith}
use Rattle.prog_tables.proofs.KindWays.{data-kinds, data-in}
use Rattle.prog_tables.proofs.is_data.Goals as goal

pub returns-in-1 : goal.returns-in-1
returns-in-1 c =
    data-in c.args.k (omega arith) (omega arith)

pub returns-in_default : goal.returns-in_default
returns-in_default c =
    search data-kinds

pub returns-in_default-2 : goal.returns-in_default-2
returns-in_default-2 c =
    search data-kinds
