use Rattle.res_exports.proofs.Cases.{seeking}
use Rattle.res_exports.proofs.seek_on.Goals as goal

pub returns-then-is_definition : goal.returns-then-is_definition
returns-then-is_definition c =
    search seeking

pub returns-then-ends_search : goal.returns-then-ends_search
returns-then-ends_search c =
    search seeking

pub returns : goal.returns
returns c =
    search seeking
