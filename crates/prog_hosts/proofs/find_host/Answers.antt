use Rattle.std.proofs.Common.{rules}
use Rattle.std.proofs.lemmas.Iterator.{first_from_Range}
use Rattle.prog_tables.specs.Hosts.{entry_named}
use Rattle.prog_tables.proofs.First.{FirstOf}
use Rattle.prog_hosts.specs.Lent.{host_list}
use Rattle.prog_hosts.proofs.Cases.{host-first}
use Rattle.prog_hosts.proofs.find_host.Goals as goal

pub returns : goal.returns
returns c =
    let first : FirstOf (λ i. entry_named (host_list c.args.hosts.now c.args.names.now) i c.args.name.now) 0 c.entries-n.result c.find.result =
    first_from_Range _ _ _ c.find.result _ _ c.find.ensures.ran (λ x q k. search rules) (λ x q k. search rules) in
    search (host-first, rules)
