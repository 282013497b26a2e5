-- From `well_formed` to each rule at each row.
-- Assumes nothing.
use mathlib.Core.Path.{◌≡◌, refl, sym, ◌∙◌, ap}
use mathlib.Core.Bool.{Bool, true, false}
use mathlib.Core.List.{List, [], ◌∷◌}
use Prim.Native.Nat.{ℕ, zero, suc, ◌<◌}
use native.Mathlib.Nat.{not-suc-le-zero, le_of_suc-le-suc}
use native.Mathlib.Decide.{ℕ_discrete}
use native.Mathlib.Omega.{arith}
use lib.ListN.{length, get_or}
use Rattle.base_prelude.proofs.Choice.{true-false}
use Rattle.base_limits.specs.declared.Width.{Width}
use Rattle.prog_tables.specs.Tests.{both, one_of, given, all, all_below, some_below}
use Rattle.prog_tables.specs.Label.{Tables, rows, labels_of}
use Rattle.prog_tables.specs.Program.{program_from}
use Rattle.prog_tables.specs.Nesting.{stands, all_closed}
use Rattle.prog_tables.specs.WellFormed.{shallow, aimed, jumps, calls, shaped, operands_good, address_good, sets_local, framed, few_locals, forward_calls, row_tests, names, name_good, name_new, label_tests, counts_good, row_good, label_good, well_formed, WellFormed}

pub both_left : (p q : Bool) → both p q ≡ true → p ≡ true
both_left true q e = refl
both_left false q e = e

pub both_right : (p q : Bool) → both p q ≡ true → q ≡ true
both_right true q e = e
both_right false q e = true-false (sym e)

pub both_true : (p q : Bool) → p ≡ true → q ≡ true → both p q ≡ true
both_true true q e d = d
both_true false q e d = e

pub both_false : (p : Bool) → both p false ≡ false
both_false true = refl
both_false false = refl

-- the last of tests alone
pub last-true : (b : Bool) → b ≡ both b true
last-true true = refl
last-true false = refl

pub one-true : (p : Bool) → one_of p true ≡ true
one-true true = refl
one-true false = refl

pub one-false : (p : Bool) → one_of p false ≡ p
one-false true = refl
one-false false = refl

pub one-no : (p q : Bool) → one_of p q ≡ false → p ≡ false
one-no true q e = e
one-no false q e = refl

pub one-rest : (p q : Bool) → one_of p q ≡ false → q ≡ false
one-rest true q e = true-false e
one-rest false q e = e

-- what is asked where p holds
pub given-then : (p q : Bool) → given p q ≡ true → p ≡ true → q ≡ true
given-then true q e d = e
given-then false q e d = true-false (sym d)

-- each test of a list
pub all-at : (bs : List Bool) (k : ℕ) → all bs ≡ true → k < length bs → get_or bs k true ≡ true
unfolding all
all-at [] k e h = absurd (not-suc-le-zero h)
all-at (b ∷ bs) zero e h = both_left b (all bs) e
all-at (b ∷ bs) (suc k) e h = all-at bs k (both_right b (all bs) e) (le_of_suc-le-suc h)

-- a number below the bound where a test holds
pub some_at : (p : ℕ → Bool) (n i : ℕ) → i < n → p i ≡ true → some_below p n ≡ true
unfolding some_below
some_at p zero i h e = absurd (not-suc-le-zero h)
some_at p (suc n) i h e =
    elim (ℕ_discrete i n) [
      | yes q ↦ ap (λ (b : Bool). one_of b (some_below p n)) (ap p (sym q) ∙ e)
      | no q ↦ ap (λ (b : Bool). one_of (p n) b) (some_at p n i (omega arith) e) ∙ one-true (p n)
    ]

-- the test at each number below the bound
pub below_at : (p : ℕ → Bool) (n i : ℕ) → all_below p n ≡ true → i < n → p i ≡ true
unfolding all_below
below_at p zero i e h = absurd (not-suc-le-zero h)
below_at p (suc n) i e h =
    elim (ℕ_discrete i n) [
      | yes q ↦ rw q (both_left (p n) (all_below p n) e)
      | no q ↦ below_at p n i (both_right (p n) (all_below p n) e) (omega arith)
    ]

module _ (bits : Width) (t : Tables) (w : WellFormed (program_from bits t)) where
  pub counts-good : counts_good (program_from bits t) ≡ true
  unfolding well_formed
  counts-good = all-at (counts_good (program_from bits t) ∷ all_closed (rows t) t.count ∷ all_below (row_good (program_from bits t)) t.count ∷ all_below (label_good (program_from bits t)) t.label_count ∷ []) 0 w (omega arith)

  pub all_closed_lem : all_closed (rows t) t.count ≡ true
  unfolding well_formed
  all_closed_lem = all-at (counts_good (program_from bits t) ∷ all_closed (rows t) t.count ∷ all_below (row_good (program_from bits t)) t.count ∷ all_below (label_good (program_from bits t)) t.label_count ∷ []) 1 w (omega arith)

  rows-good : all_below (row_good (program_from bits t)) t.count ≡ true
  unfolding well_formed
  rows-good = all-at (counts_good (program_from bits t) ∷ all_closed (rows t) t.count ∷ all_below (row_good (program_from bits t)) t.count ∷ all_below (label_good (program_from bits t)) t.label_count ∷ []) 2 w (omega arith)

  labels-good : all_below (label_good (program_from bits t)) t.label_count ≡ true
  unfolding well_formed
  labels-good = all-at (counts_good (program_from bits t) ∷ all_closed (rows t) t.count ∷ all_below (row_good (program_from bits t)) t.count ∷ all_below (label_good (program_from bits t)) t.label_count ∷ []) 3 w (omega arith)

  -- rule k at statement n
  module _ (n : ℕ) (h : n < t.count) where
    pub row-rule : (k : ℕ) → k < length (row_tests (program_from bits t) n)
        → get_or (row_tests (program_from bits t) n) k true ≡ true
    row-rule k l = all-at (row_tests (program_from bits t) n) k (below_at (row_good (program_from bits t)) t.count n rows-good h) l

    pub stands_at : stands (rows t) n ≡ true
    unfolding row_tests
    stands_at = row-rule 0 (omega arith)

    pub shallow-at : shallow (rows t) n ≡ true
    unfolding row_tests
    shallow-at = row-rule 1 (omega arith)

    pub aimed-at : aimed (rows t) t.count n ≡ true
    unfolding row_tests
    aimed-at = row-rule 2 (omega arith)

    pub jumps_at : jumps (program_from bits t) n ≡ true
    unfolding row_tests
    jumps_at = row-rule 3 (omega arith)

    pub calls_at : calls (program_from bits t) n ≡ true
    unfolding row_tests
    calls_at = row-rule 4 (omega arith)

    pub shaped-at : shaped (rows t) n ≡ true
    unfolding row_tests
    shaped-at = row-rule 5 (omega arith)

    pub operands-at : operands_good (program_from bits t) n ≡ true
    unfolding row_tests
    operands-at = row-rule 6 (omega arith)

    pub address-at : address_good (program_from bits t) n ≡ true
    unfolding row_tests
    address-at = row-rule 7 (omega arith)

    pub sets-at : sets_local (rows t) n ≡ true
    unfolding row_tests
    sets-at = row-rule 8 (omega arith)

    pub framed_at : framed (rows t) t.count n ≡ true
    unfolding row_tests
    framed_at = row-rule 9 (omega arith)

    pub few-at : few_locals (rows t) n ≡ true
    unfolding row_tests
    few-at = row-rule 10 (omega arith)

    pub forward-at : forward_calls (program_from bits t) n ≡ true
    unfolding row_tests
    forward-at = row-rule 11 (omega arith)

  -- rule k at label n
  module _ (n : ℕ) (h : n < t.label_count) where
    pub label-rule : (k : ℕ) → k < length (label_tests (program_from bits t) n)
        → get_or (label_tests (program_from bits t) n) k true ≡ true
    label-rule k l = all-at (label_tests (program_from bits t) n) k (below_at (label_good (program_from bits t)) t.label_count n labels-good h) l

    pub names_at : names (program_from bits t) (labels_of t n) ≡ true
    unfolding label_tests
    names_at = label-rule 0 (omega arith)

    pub name-good-at : name_good (labels_of t n) ≡ true
    unfolding label_tests
    name-good-at = label-rule 1 (omega arith)

    pub name-new-at : name_new (labels_of t) n ≡ true
    unfolding label_tests
    name-new-at = label-rule 2 (omega arith)
