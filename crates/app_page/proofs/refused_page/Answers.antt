use Rattle.app_page.proofs.Cases.{pages}
use Rattle.app_page.proofs.refused_page.Goals as goal

pub returns-then-out-size_of_page : goal.returns-then-out-size_of_page
returns-then-out-size_of_page c =
    search pages

pub returns : goal.returns
returns c =
    search pages
