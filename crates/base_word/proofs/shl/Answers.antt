use Rattle.base_word.specs.Word.{shl_by, shl_of}
use Rattle.base_word.proofs.Cases.{shifted-modulo}
use Rattle.base_word.proofs.shl.Goals as goal

pub returns : goal.returns
unfolding shl_of
returns c =
    search (shifted-modulo 32 c.args.n (shl_by 32 c.args.a))
