use Rattle.test_text.proofs.Cases.{fields}
use Rattle.test_text.proofs.add_field.Goals as goal

pub returns-then-n-lt-NO_NUMBER : goal.returns-then-n-lt-NO_NUMBER
returns-then-n-lt-NO_NUMBER c =
    search fields

pub returns : goal.returns
returns c =
    search fields
