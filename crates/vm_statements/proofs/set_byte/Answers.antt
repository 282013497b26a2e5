use Rattle.vm_statements.proofs.Cases.{byte-ways}
use Rattle.vm_operands.proofs.Cases.{byte-in}
use borrow.Author.Rules.{rules}
use Rattle.vm_statements.proofs.set_byte.Goals as goal

pub returns-in_default : goal.returns-in_default
returns-in_default c =
    search byte-ways

pub put_byte-requires : goal.put_byte-requires
put_byte-requires c =
    search (byte-in, rules)

pub returns-then-has_byte : goal.returns-then-has_byte
returns-then-has_byte c =
    search byte-ways

pub returns : goal.returns
returns c =
    search byte-ways
