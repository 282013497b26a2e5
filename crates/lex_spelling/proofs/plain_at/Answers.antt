use Rattle.lex_spelling.proofs.Cases.{escapes}
use Rattle.lex_spelling.proofs.plain_at.Goals as goal

pub returns-then-v-lt256 : goal.returns-then-v-lt256
returns-then-v-lt256 c =
    search escapes

pub returns : goal.returns
returns c =
    search escapes
