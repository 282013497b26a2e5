use Rattle.lex_source.proofs.add_token.Goals as goal

pub returns : goal.returns
returns c =
    cc
