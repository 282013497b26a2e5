use Rattle.file_codec.proofs.Cases.{a-ways}
use Rattle.file_codec.proofs.uses_a.Goals as goal

pub returns-then-has_target : goal.returns-then-has_target
returns-then-has_target c =
    search a-ways

pub returns-then-k-eq-GOTO : goal.returns-then-k-eq-GOTO
returns-then-k-eq-GOTO c =
    search a-ways

pub returns-then-k-eq-FUNCTION : goal.returns-then-k-eq-FUNCTION
returns-then-k-eq-FUNCTION c =
    search a-ways

pub returns-then-k-lt-BLOCK : goal.returns-then-k-lt-BLOCK
returns-then-k-lt-BLOCK c =
    search a-ways

pub returns : goal.returns
returns c =
    search a-ways
