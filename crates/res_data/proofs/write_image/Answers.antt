use Rattle.res_data.specs.Image.{image_of}
use Rattle.res_data.proofs.Walks.{first_fits}
use borrow.Author.Rules.{rules}
use Rattle.res_data.proofs.write_image.Goals as goal

pub lay_from-requires : goal.lay_from-requires
lay_from-requires c =
    search (first_fits, rules)

pub returns : goal.returns
unfolding image_of
returns c =
    cc
