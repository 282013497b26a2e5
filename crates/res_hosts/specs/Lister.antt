-- "lister and case runner lend `bath` with 1 argument and `order` with 2" (02, 3).
-- Assumes nothing.
use Rattle.std.specs.Prelude.{ℕ, ◌-◌, List, [], ◌∷◌, ◌++◌, length}
use Rattle.base_prelude.specs.Lists.{zeros}
use Rattle.base_limits.specs.Limits.{name_bytes}
use Rattle.prog_tables.specs.Hosts.{Hosts}

abbrev pub bath : List ℕ
bath = 98 ∷ 97 ∷ 116 ∷ 104 ∷ []

abbrev pub order : List ℕ
order = 111 ∷ 114 ∷ 100 ∷ 101 ∷ 114 ∷ []

-- as many bytes as a name may have
abbrev pub name_field : List ℕ → List ℕ
name_field name = name ++ zeros (name_bytes - length name)

abbrev pub lister_hosts : Hosts
lister_hosts =
    record { words = length bath ∷ 1 ∷ length order ∷ 2 ∷ []; names = name_field bath ++ name_field order }
