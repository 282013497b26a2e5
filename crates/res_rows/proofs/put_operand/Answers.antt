use lib.ListN.{length-set}
use Rattle.res_rows.proofs.Tables.{operand-put}
use native.Mathlib.Omega.{arith}
use borrow.Author.Rules.{rules}
use Rattle.res_rows.proofs.put_operand.Goals as goal

pub bounds-out-at-2 : goal.bounds-out-at-2
bounds-out-at-2 c =
    simp length-set (omega arith)

pub shape_of-out : goal.shape_of-out
shape_of-out c =
    simp length-set

pub returns : goal.returns
returns c =
    search (operand-put, rules)
