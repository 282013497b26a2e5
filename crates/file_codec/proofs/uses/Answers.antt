use Rattle.file_codec.proofs.Cases.{use-ways}
use Rattle.file_codec.proofs.uses.Goals as goal

pub returns-then-j-lt-A : goal.returns-then-j-lt-A
returns-then-j-lt-A c =
    search use-ways

pub returns-then-j-eq-A : goal.returns-then-j-eq-A
returns-then-j-eq-A c =
    search use-ways

pub returns-then-j-eq-B : goal.returns-then-j-eq-B
returns-then-j-eq-B c =
    search use-ways

pub returns-then-j-eq-EXPR : goal.returns-then-j-eq-EXPR
returns-then-j-eq-EXPR c =
    search use-ways

pub returns-then-j-eq-CALLEE : goal.returns-then-j-eq-CALLEE
returns-then-j-eq-CALLEE c =
    search use-ways

pub returns-then-j-eq-COUNT : goal.returns-then-j-eq-COUNT
returns-then-j-eq-COUNT c =
    search use-ways

pub returns-then-j-lt-OPERANDS : goal.returns-then-j-lt-OPERANDS
returns-then-j-lt-OPERANDS c =
    search use-ways

pub returns : goal.returns
returns c =
    search use-ways
