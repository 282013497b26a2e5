use Rattle.vm_pauses.proofs.Cases.{in-ways, awaits-leaves}
use Rattle.vm_pauses.proofs.hand_in.Goals as goal

pub hand_back-requires : goal.hand_back-requires
hand_back-requires c =
    search awaits-leaves

pub returns-then-returns_import : goal.returns-then-returns_import
returns-then-returns_import c =
    search in-ways

pub returns : goal.returns
returns c =
    search in-ways
