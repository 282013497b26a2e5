use Rattle.vm_operands.proofs.Cases.{byte-ways, byte-in}
use borrow.Author.Rules.{rules}
use Rattle.vm_operands.proofs.byte_at.Goals as goal

pub bounds-m-i : goal.bounds-m-i
bounds-m-i c =
    search (byte-in, rules)

pub returns-then-has_byte : goal.returns-then-has_byte
returns-then-has_byte c =
    search byte-ways

pub returns : goal.returns
returns c =
    search byte-ways
