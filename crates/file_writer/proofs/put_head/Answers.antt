use Rattle.file_writer.proofs.Cases.{head-put}
use Rattle.file_writer.proofs.put_head.Goals as goal

pub returns : goal.returns
returns c =
    search head-put
