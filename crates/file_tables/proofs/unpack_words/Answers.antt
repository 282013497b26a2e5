use Rattle.file_tables.proofs.Cases.{unpacking}
use Rattle.file_tables.proofs.unpack_words.Goals as goal
use Rattle.file_tables.proofs.unpack_words.Goals.{then-uses, else-uses}

pub loop-j-init : goal.loop-j-init
loop-j-init c =
    search unpacking

pub loop-j-preserved : goal.loop-j-preserved
loop-j-preserved c =
    elim c.if-uses.branch [ then-uses w ↦ search unpacking | else-uses w ↦ search unpacking ]

pub returns : goal.returns
returns c =
    search unpacking
