use lib.ListN.{length-set}
use Rattle.lex_source.proofs.Rows.{row_put}
use native.Mathlib.Omega.{arith}
use borrow.Author.Rules.{rules}
use Rattle.lex_source.proofs.put_row.Goals as goal

pub bounds-t-n-2 : goal.bounds-t-n-2
bounds-t-n-2 c =
    simp length-set (omega arith)

pub bounds-t-n-3 : goal.bounds-t-n-3
bounds-t-n-3 c =
    simp length-set (omega arith)

pub bounds-t-n-4 : goal.bounds-t-n-4
bounds-t-n-4 c =
    simp length-set (omega arith)

pub bounds-t-n-5 : goal.bounds-t-n-5
bounds-t-n-5 c =
    simp length-set (omega arith)

pub bounds-t-n-6 : goal.bounds-t-n-6
bounds-t-n-6 c =
    simp length-set (omega arith)

pub bounds-t-n-7 : goal.bounds-t-n-7
bounds-t-n-7 c =
    simp length-set (omega arith)

pub bounds-t-n-8 : goal.bounds-t-n-8
bounds-t-n-8 c =
    simp length-set (omega arith)

pub returns : goal.returns
returns c =
    search (row_put, rules)
