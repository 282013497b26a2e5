use Rattle.std.proofs.Common.{◌∙◌, arith}
use Rattle.base_prelude.specs.Bytes.{byte_at}
use Rattle.base_prelude.proofs.byte_at.Goals as goal

pub returns-in-Some : goal.returns-in-Some
unfolding byte_at
returns-in-Some c =
    c.from.ensures ∙ c.in-Some.ensures.lookup.3.1 256

pub returns-in-None : goal.returns-in-None
unfolding byte_at
returns-in-None c =
    c.in-None.ensures.lookup.4 (omega arith) 256
