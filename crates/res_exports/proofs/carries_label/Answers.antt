use Rattle.res_exports.proofs.Cases.{carrying}
use Rattle.res_exports.proofs.carries_label.Goals as goal

pub returns-then-q-first : goal.returns-then-q-first
returns-then-q-first c =
    search carrying

pub returns-then-q-word : goal.returns-then-q-word
returns-then-q-word c =
    search carrying

pub returns : goal.returns
returns c =
    search carrying
