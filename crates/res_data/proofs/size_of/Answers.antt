use Rattle.base_prelude.proofs.Choice.{tests}
use Rattle.res_data.specs.Sizes.{size_of}
use Rattle.res_data.proofs.size_of.Goals as goal

pub returns-then-k-eq-BYTE : goal.returns-then-k-eq-BYTE
unfolding size_of
returns-then-k-eq-BYTE c =
    search tests depth 16

pub returns-then-k-eq-WORD : goal.returns-then-k-eq-WORD
unfolding size_of
returns-then-k-eq-WORD c =
    search tests depth 16

pub returns-then-k-eq-STRING : goal.returns-then-k-eq-STRING
unfolding size_of
returns-then-k-eq-STRING c =
    search tests depth 16

pub returns-then-k-eq-ALIGN : goal.returns-then-k-eq-ALIGN
unfolding size_of
returns-then-k-eq-ALIGN c =
    search tests depth 16

pub returns : goal.returns
unfolding size_of
returns c =
    search tests depth 16
