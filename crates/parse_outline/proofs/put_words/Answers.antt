use lib.ListN.{length-set}
use Rattle.parse_outline.proofs.Cases.{label-put}
use native.Mathlib.Omega.{arith}
use borrow.Author.Rules.{rules}
use Rattle.parse_outline.proofs.put_words.Goals as goal

pub bounds-x-w-2 : goal.bounds-x-w-2
bounds-x-w-2 c =
    simp length-set (omega arith)

pub bounds-x-w-3 : goal.bounds-x-w-3
bounds-x-w-3 c =
    simp length-set (omega arith)

pub bounds-x-w-4 : goal.bounds-x-w-4
bounds-x-w-4 c =
    simp length-set (omega arith)

pub returns : goal.returns
returns c =
    search (label-put, rules)
