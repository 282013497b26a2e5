-- The host's list: "names in a list that the host lends the check, numbered from 0 by place in it, each with an argument count of 0 to 8 (an
-- entry with more is passed over and keeps its number); of equal names left the first counts" (02, 3).
-- Assumes nothing.
use Rattle.std.specs.Prelude.{ℕ, suc, ◌+◌, ◌-◌, ◌*◌, ◌/◌, ◌%◌, min, Bool, List, [], ◌∷◌, ltb, leb, eqb, length, get_or, take, drop}
use Rattle.base_prelude.specs.Choice.{if_lt}
use Rattle.base_prelude.specs.Lists.{same_list}
use Rattle.base_limits.specs.Limits.{name_bytes, parameters}
use Rattle.prog_tables.specs.Layout.{import_label, host_row, host_entries}
use Rattle.prog_tables.specs.Tests.{both, given, all, all_below, first_from}
use Rattle.prog_tables.specs.Label.{Label}
use Rattle.prog_tables.specs.Program.{Program}

-- entries of two words, the bytes of the name and the argument count, and as many bytes as a name may have for each beside them
pub record Hosts : Type 0 where
  pub words : List ℕ
  pub names : List ℕ

-- half an entry is none
unfoldable pub entries_of : Hosts → ℕ
entries_of h = min (length h.words / host_row) host_entries

module _ (h : Hosts) (i : ℕ) where
  abbrev pub host_size : ℕ
  host_size = get_or h.words (i * host_row) 0

  abbrev pub host_arguments : ℕ
  host_arguments = get_or h.words (i * host_row + 1) 0

  abbrev pub host_name : List ℕ
  host_name = take host_size (drop (i * name_bytes) h.names)

  -- entry i is left: its name is neither empty nor longer than a name may be nor longer than what is lent, and its arguments are 0 to 8
  unfoldable pub entry_left : Bool
  entry_left =
      all (leb 1 host_size ∷ leb host_size name_bytes ∷ leb (i * name_bytes + host_size) (length h.names) ∷ leb host_arguments parameters ∷ [])

  unfoldable pub entry_named : List ℕ → Bool
  entry_named name = both entry_left (same_list host_name name)

-- the number of a name; the count of entries where none has it
unfoldable pub host_of : Hosts → List ℕ → ℕ
host_of h name = first_from (λ i. entry_named h i name) (entries_of h) 0

-- ---- a listed name's mark: its number and its argument count in one number, 0 for a name that is not listed

abbrev pub mark_of : ℕ → ℕ → ℕ
mark_of number arguments = suc (number * 16 + arguments)

abbrev pub mark_number : ℕ → ℕ
mark_number m = (m - 1) / 16

abbrev pub mark_arguments : ℕ → ℕ
mark_arguments m = (m - 1) % 16

unfoldable pub host_mark : Hosts → List ℕ → ℕ
host_mark h name = if_lt (host_of h name) (entries_of h) (mark_of (host_of h name) (host_arguments h (host_of h name))) 0

-- ---- tables against the list

-- an imported name has the number and the argument count that the list gives it
unfoldable pub label_hosted : Hosts → Label → Bool
label_hosted h l =
    given (eqb l.kind import_label)
    (all (ltb (host_of h l.name) (entries_of h) ∷ eqb l.number (host_of h l.name) ∷ eqb l.arguments (host_arguments h l.number) ∷ []))

-- "(imports against the host's list)" (02, 7)
unfoldable pub hosted : Hosts → Program → Bool
hosted h p = all_below (λ n. label_hosted h (p.labels n)) p.label_count
