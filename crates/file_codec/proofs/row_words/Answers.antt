use Rattle.file_codec.proofs.Counts.{all_words}
use Rattle.file_codec.proofs.row_words.Goals as goal

pub returns : goal.returns
returns c =
    search all_words
