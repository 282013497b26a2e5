use Rattle.vm_memory.proofs.Cases.{word-put}
use lib.ListN.{length-set}
use native.Mathlib.Omega.{arith}
use Rattle.vm_memory.proofs.put_word.Goals as goal

pub bounds-m-i-2 : goal.bounds-m-i-2
bounds-m-i-2 c =
    simp length-set (omega arith)

pub bounds-m-i-3 : goal.bounds-m-i-3
bounds-m-i-3 c =
    simp length-set (omega arith)

pub bounds-m-i-4 : goal.bounds-m-i-4
bounds-m-i-4 c =
    simp length-set (omega arith)

pub returns : goal.returns
returns c =
    search word-put
