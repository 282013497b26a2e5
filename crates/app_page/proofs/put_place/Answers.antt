use Rattle.app_page.proofs.Cases.{place-put}
use Rattle.app_page.proofs.put_place.Goals as goal

pub returns : goal.returns
returns c =
    search place-put
