-- The ways through the imported names of tables against the list; and `hosted` of any tables with these labels.
-- Assumes nothing.
use mathlib.Core.Path.{◌≡◌, refl, sym, ◌∙◌, ap}
use mathlib.Core.Bool.{true, false}
use mathlib.Core.List.{List, []}
use Prim.Native.Nat.{ℕ, ◌+◌, ◌-◌, ◌*◌, ◌≤◌, ◌<◌, min}
use native.Mathlib.Omega.{arith}
use lib.Dec.{eqb}
use lib.ListN.{length, get_or, take, drop}
use borrow.Author.Tests.{eq-eqb, ne_eqb, lt-ltb, le-ltb}
use Rattle.base_limits.specs.declared.Width.{Width}
use Rattle.prog_tables.specs.Tests.{all, all_below}
use Rattle.prog_tables.specs.Label.{Tables, label_at}
use Rattle.prog_tables.specs.Program.{program_from}
use Rattle.prog_tables.specs.Hosts.{Hosts, entries_of, host_of, label_hosted, hosted}
use Rattle.prog_names.proofs.Part.{part-name}
use Rattle.prog_tables.proofs.Each.{last-true}
use Rattle.prog_hosts.specs.Lent.{host_list}
use Rattle.prog_hosts.proofs.Cases.{entries-low}

-- the contract of `is_hosted` is `hosted` of the program that the tables hold
pub hosted-is : (h : Hosts) (w : Width) (t : Tables) → all_below (λ n. label_hosted h (label_at t.labels t.names n)) t.label_count ≡ hosted h (program_from w t)
unfolding hosted
hosted-is h w t = refl

pub host-of : (words host-names l nm : List ℕ) (i from to r : ℕ) → from ≡ min (i * 64) (length nm) → to ≡ min (i * 64 + (label_at l [] i).size) (length nm)
    → r ≡ host_of (host_list words host-names) (take (to - from) (drop from nm)) → r ≡ host_of (host_list words host-names) (label_at l nm i).name
host-of words host-names l nm i from to r q s d = d ∙ ap (host_of (host_list words host-names)) (part-name l nm i from to q s)

module _ (words host-names l nm : List ℕ) (i x : ℕ) (e : x ≡ (label_at l [] i).kind) where
  kind-is : x ≡ (label_at l nm i).kind
  unfolding label_at
  kind-is = e

  pub other-hosted : (x ≡ 6 → ⊥) → true ≡ label_hosted (host_list words host-names) (label_at l nm i)
  unfolding label_hosted
  other-hosted h = rw (← kind-is, ne_eqb _ _ h)

  module _ (h n : ℕ) (g : x ≡ 6) (q : h ≡ host_of (host_list words host-names) (label_at l nm i).name) (r : n ≡ entries_of (host_list words host-names)) where
    pub host-low : h < n → h < 268435456
    host-low d = omega (arith, r, entries-low words host-names)

    pub none-hosted : n ≤ h → false ≡ label_hosted (host_list words host-names) (label_at l nm i)
    unfolding label_hosted all
    none-hosted d = rw (← kind-is, eq-eqb _ _ g, ← q, ← r, le-ltb _ _ d)

    module _ (v : ℕ) (d : h < n) (s : v ≡ (label_at l [] i).number) where
      number_is : v ≡ (label_at l nm i).number
      unfolding label_at
      number_is = s

      pub other-number : (v ≡ h → ⊥) → false ≡ label_hosted (host_list words host-names) (label_at l nm i)
      unfolding label_hosted all
      other-number u = rw (← kind-is, eq-eqb _ _ g, ← q, ← r, lt-ltb _ _ d, ← number_is, ne_eqb _ _ u)

      module _ (a : ℕ) (c : a ≡ (label_at l [] i).arguments) where
        arguments-is : a ≡ (label_at l nm i).arguments
        unfolding label_at
        arguments-is = c

        pub same-arguments : (o : ℕ) → v ≡ h → o ≡ get_or words (h * 2 + 1) 0 → eqb a o ≡ label_hosted (host_list words host-names) (label_at l nm i)
        unfolding label_hosted all
        same-arguments o u p =
            let z : o ≡ get_or words (v * 2 + 1) 0 = p ∙ ap (λ (j : ℕ). get_or words (j * 2 + 1) 0) (sym u) in
            rw (← kind-is, eq-eqb _ _ g, ← q, ← r, lt-ltb _ _ d, ← number_is, eq-eqb _ _ u, ← arguments-is, ← z) (last-true (eqb a o))

pub ruleset label-ways = (other-hosted, none-hosted, other-number, same-arguments)
