use Rattle.vm_quick_statements.proofs.Cases.{bytes, byte-in}
use Rattle.vm_quick_statements.proofs.set_byte.Goals as goal

pub returns-in_err-x : goal.returns-in_err-x
returns-in_err-x c =
    rw c.from_residual.ensures (search (bytes, c.in_err-x.was))

pub put_byte-requires : goal.put_byte-requires
put_byte-requires c =
    search byte-in

pub returns-then-has_byte : goal.returns-then-has_byte
returns-then-has_byte c =
    search (bytes, c.in_ok-x.was)

pub returns : goal.returns
returns c =
    search (bytes, c.in_ok-x.was)
