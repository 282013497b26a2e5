use lib.ListN.{length-set}
use Rattle.parse_units.proofs.Cases.{row_put}
use native.Mathlib.Omega.{arith}
use borrow.Author.Rules.{rules}
use Rattle.parse_units.proofs.put_row.Goals as goal

pub bounds-rows-w-2 : goal.bounds-rows-w-2
bounds-rows-w-2 c =
    simp length-set (omega arith)

pub bounds-rows-w-3 : goal.bounds-rows-w-3
bounds-rows-w-3 c =
    simp length-set (omega arith)

pub bounds-rows-w-4 : goal.bounds-rows-w-4
bounds-rows-w-4 c =
    simp length-set (omega arith)

pub bounds-rows-w-5 : goal.bounds-rows-w-5
bounds-rows-w-5 c =
    simp length-set (omega arith)

pub bounds-rows-w-6 : goal.bounds-rows-w-6
bounds-rows-w-6 c =
    simp length-set (omega arith)

pub bounds-rows-w-7 : goal.bounds-rows-w-7
bounds-rows-w-7 c =
    simp length-set (omega arith)

pub bounds-rows-w-8 : goal.bounds-rows-w-8
bounds-rows-w-8 c =
    simp length-set (omega arith)

pub returns : goal.returns
returns c =
    search (row_put, rules)
