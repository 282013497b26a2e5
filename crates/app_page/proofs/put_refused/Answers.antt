use Rattle.app_page.proofs.Cases.{refused-put}
use Rattle.app_page.proofs.put_refused.Goals as goal

pub returns : goal.returns
returns c =
    search refused-put
