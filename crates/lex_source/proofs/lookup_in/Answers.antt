use Rattle.lex_source.proofs.Cases.{wording}
use Rattle.lex_source.proofs.lookup_in.Goals as goal

pub returns-then-is_substitute : goal.returns-then-is_substitute
returns-then-is_substitute c =
    search wording

pub returns : goal.returns
returns c =
    search wording
