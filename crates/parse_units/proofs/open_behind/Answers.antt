use Rattle.parse_units.proofs.Cases.{behinds}
use Rattle.parse_units.proofs.open_behind.Goals as goal

pub returns-then-is_opener : goal.returns-then-is_opener
returns-then-is_opener c =
    search behinds

pub returns : goal.returns
returns c =
    search behinds
