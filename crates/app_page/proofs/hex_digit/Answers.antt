use Rattle.base_prelude.proofs.Choice.{tests}
use Rattle.app_page.specs.Bytes.{hex_digit}
use Rattle.app_page.proofs.hex_digit.Goals as goal

pub returns-then-d-lt10 : goal.returns-then-d-lt10
unfolding hex_digit
returns-then-d-lt10 c =
    search tests

pub returns : goal.returns
unfolding hex_digit
returns c =
    search tests
