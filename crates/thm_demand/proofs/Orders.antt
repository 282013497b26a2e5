-- The worked cases of the papers hold.
-- Assumes nothing.
use mathlib.Core.Path.{refl}
use Rattle.base_word.specs.Word.{add_of, div_of, mod_of, bsr_of, asr_of, shl_of}
use Rattle.app_listing.proofs.Examples.{case1-listed, empty-listed}
use Rattle.thm_demand.specs.Orders.{Orders}
use Rattle.thm_demand.proofs.CaseTwo.{case-two}
use Rattle.thm_demand.proofs.Lexing.{text-two}

pub orders : Orders
unfolding add_of div_of mod_of bsr_of asr_of shl_of
orders = record { row1 = case1-listed; row2 = case-two; row3 = empty-listed; row4 = refl; row5-div = refl; row5-mod = refl; row6-bsr = refl; row6-asr = refl; row7 = text-two; row8 = refl }
