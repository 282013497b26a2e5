use Rattle.app_page.proofs.Cases.{accepted-put}
use Rattle.app_page.proofs.put_accepted.Goals as goal

pub returns : goal.returns
returns c =
    search accepted-put
