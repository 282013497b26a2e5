use Rattle.parse_outline.proofs.Cases.{label-full}
use Rattle.parse_outline.proofs.put_label.Goals as goal

pub returns-else-c-lt-MOST_LABELS : goal.returns-else-c-lt-MOST_LABELS
returns-else-c-lt-MOST_LABELS c =
    search label-full
