use Rattle.base_word.proofs.Cases.{asr-plus, asr-minus}
use Rattle.base_word.proofs.asr_by.Goals as goal

pub returns-then-a-lt2147483648 : goal.returns-then-a-lt2147483648
returns-then-a-lt2147483648 c =
    search (asr-plus 32)

pub returns : goal.returns
returns c =
    search (asr-minus 32)
