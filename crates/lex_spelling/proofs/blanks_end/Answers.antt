use Rattle.lex_spelling.proofs.Ends.{blanking}
use Rattle.lex_spelling.proofs.blanks_end.Goals as goal

pub loop-i-init : goal.loop-i-init
loop-i-init c =
    search blanking

pub returns-then-not-is_blank : goal.returns-then-not-is_blank
returns-then-not-is_blank c =
    search blanking

pub loop-i-preserved : goal.loop-i-preserved
loop-i-preserved c =
    search blanking

pub returns : goal.returns
returns c =
    search blanking
