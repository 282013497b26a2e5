use Rattle.res_data.proofs.Cases.{lining}
use Rattle.res_data.proofs.write_line.Goals as goal

pub returns-then-k-eq-BYTE : goal.returns-then-k-eq-BYTE
returns-then-k-eq-BYTE c =
    search lining

pub returns-then-k-eq-WORD : goal.returns-then-k-eq-WORD
returns-then-k-eq-WORD c =
    search lining

pub returns-then-k-eq-STRING : goal.returns-then-k-eq-STRING
returns-then-k-eq-STRING c =
    search lining

pub returns-else-k-eq-STRING : goal.returns-else-k-eq-STRING
returns-else-k-eq-STRING c =
    search lining
