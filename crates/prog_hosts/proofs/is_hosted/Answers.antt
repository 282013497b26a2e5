use borrow.Author.Rules.{rules}
use mathlib.Core.Path.{refl}
use Rattle.prog_tables.proofs.Scans.{every}
use Rattle.prog_tables.specs.Label.{label_at}
use Rattle.prog_tables.specs.Hosts.{label_hosted}
use Rattle.prog_hosts.specs.Lent.{host_list}
use Rattle.prog_hosts.proofs.is_hosted.Goals as goal

pub returns : goal.returns
returns c =
    every (λ n. label_hosted (host_list c.args.hosts.now c.args.host_names.now) (label_at c.args.l.now c.args.names.now n)) c.args.k _ _ _ _ refl c.all.ensures.ran (λ x b q h. search rules)
