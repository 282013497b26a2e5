use Rattle.file_codec.proofs.Cases.{word_made}
use Rattle.file_codec.proofs.word_in.Goals as goal

pub returns : goal.returns
returns c =
    search word_made
