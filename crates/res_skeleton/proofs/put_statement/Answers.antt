use Rattle.res_skeleton.specs.Skeleton.{statement_of}
use Rattle.res_skeleton.proofs.put_statement.Goals as goal

pub returns : goal.returns
unfolding statement_of
returns c =
    cc
