use Rattle.base_word.specs.Word.{asr_by, asr_of}
use Rattle.base_word.proofs.Cases.{shifted-modulo}
use Rattle.base_word.proofs.asr.Goals as goal

pub returns : goal.returns
unfolding asr_of
returns c =
    search (shifted-modulo 32 c.args.n (asr_by 32 c.args.a))
