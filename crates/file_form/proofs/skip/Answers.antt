use Rattle.file_form.proofs.Cases.{skipping, ends_at, ends_nowhere, within-at, within-nowhere, good-fits-by}
use Rattle.file_form.proofs.skip.Goals as goal

pub loop-init : goal.loop-init
loop-init c =
    search skipping

pub behind-p-requires : goal.behind-p-requires
behind-p-requires c =
    search good-fits-by

pub loop-preserved : goal.loop-preserved
loop-preserved c =
    search skipping

pub returns-then-not-is_good : goal.returns-then-not-is_good
returns-then-not-is_good c =
    record { 0 = search ends_nowhere; 1 = search within-nowhere }

pub returns : goal.returns
returns c =
    record { 0 = search ends_at; 1 = search within-at }
