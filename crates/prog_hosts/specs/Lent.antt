-- The host's list as it is lent.
-- Assumes nothing.
use Rattle.std.specs.Prelude.{ℕ, List}
use Rattle.prog_tables.specs.Hosts.{Hosts}

abbrev pub host_list : List ℕ → List ℕ → Hosts
host_list words names = record { words = words; names = names }
