use Rattle.lex_lexeme.proofs.Gaps.{skipping}
use Rattle.lex_lexeme.proofs.skip_one.Goals as goal

pub returns-then-is_blank : goal.returns-then-is_blank
returns-then-is_blank c =
    search skipping

pub returns-then-c-eq35 : goal.returns-then-c-eq35
returns-then-c-eq35 c =
    search skipping

pub returns-then-is_joint : goal.returns-then-is_joint
returns-then-is_joint c =
    search skipping

pub returns : goal.returns
returns c =
    search skipping
