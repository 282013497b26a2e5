use Rattle.lex_spelling.proofs.Cases.{joints}
use borrow.Author.Rules.{rules}
use Rattle.lex_spelling.proofs.is_joint.Goals as goal

pub returns-then-byte_at-eq92 : goal.returns-then-byte_at-eq92
returns-then-byte_at-eq92 c =
    search (joints, rules)

pub returns-else-byte_at-eq92 : goal.returns-else-byte_at-eq92
returns-else-byte_at-eq92 c =
    search (joints, rules)
