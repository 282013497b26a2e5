use Rattle.app_listing.proofs.Cases.{paging}
use Rattle.app_listing.proofs.page_of.Goals as goal

pub returns-in-Ok : goal.returns-in-Ok
returns-in-Ok c =
    search paging

pub returns-in-Err : goal.returns-in-Err
returns-in-Err c =
    search paging
