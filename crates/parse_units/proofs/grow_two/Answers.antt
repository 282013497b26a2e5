use Rattle.parse_units.proofs.Cases.{put-few}
use Rattle.parse_units.specs.Parse.{grow_two}
use borrow.Author.Rules.{rules}
use Rattle.parse_units.proofs.grow_two.Goals as goal

pub put_kind-requires : goal.put_kind-requires
put_kind-requires c =
    search (put-few, rules)

pub returns : goal.returns
unfolding grow_two
returns c =
    cc
