use Rattle.file_writer.proofs.Cases.{file-put}
use Rattle.file_writer.proofs.put_file.Goals as goal

pub returns : goal.returns
returns c =
    search file-put
