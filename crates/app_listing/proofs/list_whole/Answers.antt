use Rattle.app_listing.proofs.Fits.{whole-ways}
use borrow.Author.Rules.{rules}
use Rattle.app_listing.proofs.list_whole.Goals as goal

pub returns : goal.returns
returns c =
    search (rules, whole-ways)
