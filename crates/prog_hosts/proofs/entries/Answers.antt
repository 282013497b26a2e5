use borrow.Author.Rules.{rules}
use Rattle.prog_tables.specs.Hosts.{entries_of}
use Rattle.prog_hosts.proofs.entries.Goals as goal

pub returns : goal.returns
unfolding entries_of
returns c =
    search rules
