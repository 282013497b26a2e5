use Rattle.base_word.specs.Word.{bsr_by, bsr_of}
use Rattle.base_word.proofs.Cases.{shifted-modulo}
use Rattle.base_word.proofs.bsr.Goals as goal

pub returns : goal.returns
unfolding bsr_of
returns c =
    search (shifted-modulo 32 c.args.n (bsr_by 32 c.args.a))
