use Rattle.app_page.proofs.Cases.{part-name, part-short}
use Rattle.app_page.proofs.name_at.Goals as goal

pub returns : goal.returns
returns c =
    record { result_value = search part-name; result_len_bound = search part-short }
