use Rattle.prog_rules.proofs.Nesting.{may-test}
use Rattle.prog_rules.proofs.may_stand.Goals as goal

pub returns : goal.returns
returns c =
    may-test c.args.k c.args.g c.stands_in.result c.stands_in.ensures c.contains.result c.contains.ensures.value
