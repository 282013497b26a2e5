use Rattle.file_codec.proofs.Counts.{address-two, address-none}
use native.Mathlib.Omega.{arith}
use Rattle.file_codec.proofs.address_words.Goals as goal

pub returns-then-k-eq-SET_AT : goal.returns-then-k-eq-SET_AT
returns-then-k-eq-SET_AT c =
    record { 0 = search address-two; 1 = omega arith }

pub returns-else-k-eq-SET_AT : goal.returns-else-k-eq-SET_AT
returns-else-k-eq-SET_AT c =
    record { 0 = search address-none; 1 = omega arith }
