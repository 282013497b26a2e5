use Rattle.test_lines.specs.Fields.{field_of}
use Rattle.test_lines.proofs.field.Goals as goal

pub returns : goal.returns
unfolding field_of
returns c =
    cc
