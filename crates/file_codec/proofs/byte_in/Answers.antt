use Rattle.file_codec.proofs.Cases.{byte_past}
use borrow.Author.Rules.{rules}
use Rattle.file_codec.proofs.byte_in.Goals as goal

pub returns-else-i-b : goal.returns-else-i-b
returns-else-i-b c =
    record { 0 = search byte_past; 1 = search rules }
