-- One law for each way through the lookup, and its loop.
-- Assumes nothing.
use mathlib.Core.Path.{◌≡◌, ◌∙◌, ap}
use mathlib.Core.Bool.{Bool, false}
use mathlib.Core.List.{List}
use Prim.Native.Nat.{ℕ, ◌+◌, ◌-◌, ◌*◌, ◌≤◌, ◌<◌}
use native.Mathlib.Omega.{arith}
use lib.ListN.{length, get_or, take, drop}
use borrow.Author.Tests.{lt-leb, le-leb}
use Rattle.std.specs.Option.{unwrap_or}
use Rattle.std.specs.declared.option.Option.{Option}
use Rattle.base_prelude.specs.Lists.{same_list}
use Rattle.prog_tables.proofs.First.{FirstOf, first-is}
use Rattle.prog_tables.specs.Tests.{all, first_from}
use Rattle.prog_tables.specs.Hosts.{entries_of, entry_left, entry_named, host_of}
use Rattle.prog_hosts.specs.Lent.{host_list}

-- ---- the entries

pub entries-low : (words names : List ℕ) → entries_of (host_list words names) ≤ 268435456
unfolding entries_of
entries-low words names = omega arith

module _ (words names : List ℕ) (i : ℕ) (name : List ℕ) (size : ℕ) (e : size ≡ get_or words (i * 2) 0) where
  pub named-empty : size < 1 → false ≡ entry_named (host_list words names) i name
  unfolding entry_named entry_left all
  named-empty h = rw (← e, lt-leb 1 size h)

  module _ (h : 1 ≤ size) where
    pub named-long : 64 < size → false ≡ entry_named (host_list words names) i name
    unfolding entry_named entry_left all
    named-long g = rw (← e, le-leb 1 size h, lt-leb size 64 g)

    module _ (g : size ≤ 64) where
      pub named-cut : length names < i * 64 + size → false ≡ entry_named (host_list words names) i name
      unfolding entry_named entry_left all
      named-cut f = rw (← e, le-leb 1 size h, le-leb size 64 g, lt-leb (i * 64 + size) (length names) f)

      module _ (f : i * 64 + size ≤ length names) (a : ℕ) (d : a ≡ get_or words (i * 2 + 1) 0) where
        pub named-many : 8 < a → false ≡ entry_named (host_list words names) i name
        unfolding entry_named entry_left all
        named-many m = rw (← e, ← d, le-leb 1 size h, le-leb size 64 g, le-leb (i * 64 + size) (length names) f, lt-leb a 8 m)

        pub named-compared : (b : Bool) → a ≤ 8 → b ≡ same_list (take (i * 64 + size - i * 64) (drop (i * 64) names)) name
            → b ≡ entry_named (host_list words names) i name
        unfolding entry_named entry_left all
        named-compared b m q =
            let z : i * 64 + size - i * 64 ≡ size = omega arith in
            rw (← e, ← d, le-leb 1 size h, le-leb size 64 g, le-leb (i * 64 + size) (length names) f, le-leb a 8 m)
            (q ∙ ap (λ (n : ℕ). same_list (take n (drop (i * 64) names)) name) z)

pub ruleset naming = (named-empty, named-long, named-cut, named-many, named-compared)

-- ---- the search of `find_host`

pub host-first : (words names name : List ℕ) (n : ℕ) (o : Option ℕ) → n ≡ entries_of (host_list words names)
    → FirstOf (λ i. entry_named (host_list words names) i name) 0 n o → unwrap_or o n ≡ host_of (host_list words names) name
unfolding host_of
host-first words names name n o e h =
    let z : n - 0 ≡ entries_of (host_list words names) = omega (arith, e) in
    first-is (λ i. entry_named (host_list words names) i name) 0 n o (omega arith) h
    ∙ ap (λ (m : ℕ). first_from (λ i. entry_named (host_list words names) i name) m 0) z
