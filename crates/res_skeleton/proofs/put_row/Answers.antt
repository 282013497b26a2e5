use lib.ListN.{length-set}
use Rattle.res_skeleton.proofs.Cases.{row_put}
use native.Mathlib.Omega.{arith}
use borrow.Author.Rules.{rules}
use Rattle.res_skeleton.proofs.put_row.Goals as goal

pub bounds-k-w-2 : goal.bounds-k-w-2
bounds-k-w-2 c =
    simp length-set (omega arith)

pub bounds-k-w-3 : goal.bounds-k-w-3
bounds-k-w-3 c =
    simp length-set (omega arith)

pub bounds-k-w-4 : goal.bounds-k-w-4
bounds-k-w-4 c =
    simp length-set (omega arith)

pub bounds-k-w-5 : goal.bounds-k-w-5
bounds-k-w-5 c =
    simp length-set (omega arith)

pub bounds-k-w-6 : goal.bounds-k-w-6
bounds-k-w-6 c =
    simp length-set (omega arith)

pub bounds-k-w-7 : goal.bounds-k-w-7
bounds-k-w-7 c =
    simp length-set (omega arith)

pub bounds-k-w-8 : goal.bounds-k-w-8
bounds-k-w-8 c =
    simp length-set (omega arith)

pub bounds-k-w-9 : goal.bounds-k-w-9
bounds-k-w-9 c =
    simp length-set (omega arith)

pub bounds-k-w-10 : goal.bounds-k-w-10
bounds-k-w-10 c =
    simp length-set (omega arith)

pub bounds-k-w-11 : goal.bounds-k-w-11
bounds-k-w-11 c =
    simp length-set (omega arith)

pub shape_of-k : goal.shape_of-k
shape_of-k c =
    simp length-set

pub returns : goal.returns
returns c =
    search (row_put, rules)
