use Rattle.parse_lines.proofs.Scans.{placing}
use Rattle.parse_lines.proofs.place_at.Goals as goal

pub returns-then-kind_at-eq-SOURCE_END : goal.returns-then-kind_at-eq-SOURCE_END
returns-then-kind_at-eq-SOURCE_END c =
    search placing

pub returns : goal.returns
returns c =
    search placing
