use Rattle.std.proofs.Common.{◌≡◌, rules, eqb}
use Rattle.std.specs.List.{count_by}
use Rattle.app_page.proofs.Loops.{newlines-counted, newlines-few}
use Rattle.app_page.proofs.newlines_in.Goals as goal

pub returns : goal.returns
returns c =
    let e : c.count.result ≡ count_by (λ x. eqb x 10) c.args.s.now = search rules in
    (newlines-counted _ _ e, newlines-few _ _ e c.requires)
