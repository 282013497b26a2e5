-- The first number that passes a test; of the host's list, the entry that it finds.
-- Assumes nothing.
use mathlib.Core.Path.{◌≡◌, refl, sym, ◌∙◌, ap}
use mathlib.Core.Bool.{Bool, true, false}
use mathlib.Core.List.{List, [], ◌∷◌}
use Prim.Native.Nat.{ℕ, zero, suc, ◌+◌, ◌*◌, ◌≤◌, ◌<◌}
use native.Mathlib.Omega.{arith}
use lib.Dec.{eqb, leb}
use lib.ListN.{length, drop, length-take}
use borrow.Author.Tests.{leb-true}
use Rattle.base_prelude.specs.Choice.{pick}
use Rattle.base_prelude.specs.Lists.{same_list}
use Rattle.base_prelude.proofs.Choice.{if_lt-no}
use Rattle.prog_tables.specs.Tests.{first_from}
use Rattle.prog_tables.specs.Hosts.{Hosts, entries_of, host_size, host_arguments, host_name, entry_left, entry_named, host_of, host_mark}
use Rattle.prog_tables.proofs.Each.{both_left, both_right, all-at}

-- lists of different lengths are not the same
same-lengths : (a b : List ℕ) → (length a ≡ length b → ⊥) → false ≡ same_list a b
unfolding same_list
same-lengths [] [] h = absurd (h refl)
same-lengths [] (y ∷ b) h = refl
same-lengths (x ∷ a) [] h = refl
same-lengths (x ∷ a) (y ∷ b) h = differ (eqb x y) (same-lengths a b (λ e. h (ap suc e)))
  where
    differ : (t : Bool) → false ≡ same_list a b → false ≡ pick t (same_list a b) false
    differ true e = e
    differ false e = refl

-- what is found passes
pub first_passes : (p : ℕ → Bool) (left i : ℕ) → first_from p left i < i + left → p (first_from p left i) ≡ true
unfolding first_from
first_passes p zero i h = let z : ⊥ = omega arith in absurd z
first_passes p (suc left) i h = by (p i) refl (first_passes p left (suc i)) h
  where
    by : (b : Bool) → p i ≡ b → (first_from p left (suc i) < suc i + left → p (first_from p left (suc i)) ≡ true)
        → pick b i (first_from p left (suc i)) < i + suc left → p (pick b i (first_from p left (suc i))) ≡ true
    by true e f g = e
    by false e f g = f (omega arith)

-- without one that passes it is the number behind them
pub first-none : (p : ℕ → Bool) (left i : ℕ) → ((j : ℕ) → p j ≡ false) → first_from p left i ≡ i + left
unfolding first_from
first-none p zero i h = omega arith
first-none p (suc left) i h =
    ap (λ (b : Bool). pick b i (first_from p left (suc i))) (h i) ∙ first-none p left (suc i) h ∙ omega arith

abbrev left_tests : Hosts → ℕ → List Bool
left_tests h i =
    leb 1 (host_size h i) ∷ leb (host_size h i) 64 ∷ leb (i * 64 + host_size h i) (length h.names) ∷ leb (host_arguments h i) 8 ∷ []

module _ (h : Hosts) (i : ℕ) (name : List ℕ) (g : entry_named h i name ≡ true) where
  left : entry_left h i ≡ true
  unfolding entry_named
  left = both_left (entry_left h i) (same_list (host_name h i) name) g

  pub named-few : host_arguments h i ≤ 8
  unfolding entry_left
  named-few = leb-true _ _ (all-at (left_tests h i) 3 left (omega arith))

  pub named-short : host_size h i ≤ 64
  unfolding entry_left
  named-short = leb-true _ _ (all-at (left_tests h i) 1 left (omega arith))

  pub named-same : same_list (host_name h i) name ≡ true
  unfolding entry_named
  named-same = both_right (entry_left h i) (same_list (host_name h i) name) g

-- the entry that is found has the name
pub found-named : (h : Hosts) (name : List ℕ) → host_of h name < entries_of h → entry_named h (host_of h name) name ≡ true
unfolding host_of
found-named h name g = first_passes (λ i. entry_named h i name) (entries_of h) 0 (omega arith)

-- no entry has a longer name than a name may be
pub too_long : (h : Hosts) (i : ℕ) (name : List ℕ) → 64 < length name → entry_named h i name ≡ false
too_long h i name g = by (entry_named h i name) refl
  where
    by : (b : Bool) → entry_named h i name ≡ b → b ≡ false
    by false e = refl
    by true e =
        let s = named-short h i name e in
        let a : length (host_name h i) ≡ length name → ⊥ = λ q. omega (arith, length-take (host_size h i) (drop (i * 64) h.names), q, s) in
        sym (named-same h i name e) ∙ sym (same-lengths (host_name h i) name a)

pub long-mark : (h : Hosts) (name : List ℕ) → 64 < length name → 0 ≡ host_mark h name
unfolding host_mark host_of
long-mark h name g =
    let e = first-none (λ i. entry_named h i name) (entries_of h) 0 (λ i. too_long h i name g) in
    sym (if_lt-no _ _ (omega (arith, e)))
