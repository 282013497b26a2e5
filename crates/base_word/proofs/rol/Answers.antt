use Rattle.base_word.specs.Word.{rol_of}
use Rattle.base_word.proofs.rol.Goals as goal

pub returns : goal.returns
unfolding rol_of
returns c =
    cc
