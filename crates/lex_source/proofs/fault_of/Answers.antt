use Rattle.lex_source.proofs.Least.{faults}
use Rattle.lex_source.proofs.Nested.{at-ok, at-err}
use Rattle.lex_source.proofs.fault_of.Goals as goal

pub returns-in-Ok-None : goal.returns-in-Ok-None
returns-in-Ok-None c =
    let e = at-ok c.in-Ok-None.is (rw c.in-Ok-None.is at c.in-Ok-None.field-0-is) in search faults

pub returns-in-Ok-Some : goal.returns-in-Ok-Some
returns-in-Ok-Some c =
    let e = at-ok c.in-Ok-Some.is (rw c.in-Ok-Some.is at c.in-Ok-Some.field-0-is) in search faults

pub returns-in-Err-Lone : goal.returns-in-Err-Lone
returns-in-Err-Lone c =
    let e = at-err c.in-Err-Lone.is (rw c.in-Err-Lone.is at c.in-Err-Lone.field-0-is) in search faults

pub returns-in-Err-Broken : goal.returns-in-Err-Broken
returns-in-Err-Broken c =
    let e = at-err c.in-Err-Broken.is (rw c.in-Err-Broken.is at c.in-Err-Broken.field-0-is) in search faults

pub returns-in-Err-Open : goal.returns-in-Err-Open
returns-in-Err-Open c =
    let e = at-err c.in-Err-Open.is (rw c.in-Err-Open.is at c.in-Err-Open.field-0-is) in search faults
