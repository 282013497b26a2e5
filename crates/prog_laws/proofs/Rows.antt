-- What a row of well-formed tables names: its callee, its operands, its words; and the limits.
-- Assumes nothing.
use mathlib.Core.Path.{◌≡◌, refl, sym, ◌∙◌, ap}
use mathlib.Core.Bool.{Bool, true, false, not}
use mathlib.Core.List.{List, [], ◌∷◌}
use Prim.Native.Nat.{ℕ, zero, suc, ◌+◌, ◌*◌, ◌<◌, ◌≤◌}
use native.Mathlib.Omega.{arith}
use borrow.Author.Tests.{eqb-true, eq-eqb, leb-true, leb-false, ltb-true, ltb-false}
use lib.Dec.{eqb, ltb, leb}
use lib.ListN.{length, get_or}
use Rattle.base_prelude.specs.Choice.{pick, if_true}
use Rattle.base_prelude.proofs.Choice.{true-false, either_true, if_true-yes}
use Rattle.base_limits.specs.declared.Width.{Width}
use Rattle.base_limits.specs.Limits.{parameters, locals}
use Rattle.prog_tables.specs.Layout.{statement_row}
use Rattle.prog_tables.specs.Tests.{both, one_of, given, all, some_of, count_below, greatest_below}
use Rattle.prog_tables.specs.Statement.{Row, is_call, is_import}
use Rattle.prog_tables.specs.Label.{Tables, rows, labels_of, is_function_label}
use Rattle.prog_tables.specs.Program.{program_from}
use Rattle.prog_tables.specs.Frames.{is_in, lets_before, block_need, need_of, frame_size, locals_at}
use Rattle.prog_tables.specs.Faults.{size_at, operand_fault, operands_fault, address_fault, address_listed, row_fault}
use Rattle.prog_tables.specs.WellFormed.{labelled, function_calls, import_calls, few_locals, counts_good, WellFormed}
use Rattle.prog_tables.specs.declared.Operand.{Operand}
use Rattle.prog_tables.specs.declared.Operand.TheVariants.{Constant, Local, Address, AtLocal, AtAddress, Unlisted}
use Rattle.prog_tables.proofs.Each.{both_left, given-then, all-at, counts-good, few-at}
use Rattle.prog_tables.proofs.Sound.{function-sound, function-calls, import-calls, row-held, size_is}
use Rattle.prog_tables.proofs.Whole.{operands-sound, address-sound, row-sound}
use Rattle.prog_tables.proofs.Unbroken.{counts, not-true}

-- ---- operands that are not broken

pub local-word : (size d v : ℕ) → operand_fault size d (Local v) ≡ false → v < size
unfolding operand_fault
local-word size d v e = leb-false size v e

pub at-local-word : (size d v : ℕ) → operand_fault size d (AtLocal v) ≡ false → v < size
unfolding operand_fault
at-local-word size d v e = leb-false size v e

pub data-address : (size d v : ℕ) → operand_fault size d (Address v) ≡ false → v ≤ d
unfolding operand_fault
data-address size d v e = ltb-false d v e

pub at-data-address : (size d v : ℕ) → operand_fault size d (AtAddress v) ≡ false → v ≤ d
unfolding operand_fault
at-data-address size d v e = ltb-false d v e

pub no-unlisted : (size d : ℕ) → operand_fault size d Unlisted ≡ false → ⊥
unfolding operand_fault
no-unlisted size d e = true-false e

none-at : (p : Operand → Bool) (os : List Operand) (j : ℕ) (o : Operand) → p o ≡ false → some_of p os ≡ false → p (get_or os j o) ≡ false
unfolding some_of
none-at p [] j o d e = d
none-at p (x ∷ os) zero o d e = neither (p x) (some_of p os) e
  where
    neither : (a b : Bool) → one_of a b ≡ false → a ≡ false
    neither true b e = e
    neither false b e = refl
none-at p (x ∷ os) (suc j) o d e = none-at p os j o d (rest (p x) (some_of p os) e)
  where
    rest : (a b : Bool) → one_of a b ≡ false → b ≡ false
    rest true b e = true-false e
    rest false b e = e

-- ---- counts

count_most : (p : ℕ → Bool) (n : ℕ) → count_below p n ≤ n
unfolding count_below
count_most p zero = omega arith
count_most p (suc n) = step (count_most p n) (p n)
  where
    step : count_below p n ≤ n → (b : Bool) → pick b (suc (count_below p n)) (count_below p n) ≤ suc n
    step h true = omega arith
    step h false = omega arith

greatest-most : (g : ℕ → ℕ) (n m : ℕ) → ((i : ℕ) → g i ≤ m) → greatest_below g n ≤ m
unfolding greatest_below
greatest-most g zero m h = omega arith
greatest-most g (suc n) m h = omega (arith, h n, greatest-most g n m h)

-- a frame needs at most a word for each row and one more, at each depth
need-most : (f : ℕ → Row) (c d s : ℕ) → c ≤ 1024 → need_of f c d s ≤ d * 1025
unfolding need_of lets_before block_need
need-most f c zero s h = omega arith
need-most f c (suc d) s h =
    omega (
      arith,
      count_most (is_in f 5 s) c,
      greatest-most (λ i. if_true (is_in f 3 s i) (suc (need_of f c d i)) 0) c (suc (d * 1025))
          (λ i. either_true (λ (x : ℕ). x ≤ suc (d * 1025)) (is_in f 3 s i) (suc (need_of f c d i)) 0 (λ e. omega (arith, need-most f c d i h)) (λ e. omega arith)),
    )

module _ (bits : Width) (t : Tables) (w : WellFormed (program_from bits t)) where
  -- ---- limits: no row number and no frame size is 65,535

  pub few-rows : t.count ≤ 1024
  unfolding counts_good
  few-rows = leb-true _ _ (all-at (counts (program_from bits t)) 0 (counts-good bits t w) (omega arith))

  pub few-labels : t.label_count ≤ 256
  unfolding counts_good
  few-labels = leb-true _ _ (all-at (counts (program_from bits t)) 1 (counts-good bits t w) (omega arith))

  pub few-data : t.data_length ≤ 32768
  unfolding counts_good
  few-data = leb-true _ _ (all-at (counts (program_from bits t)) 2 (counts-good bits t w) (omega arith))

  pub rows-there : t.count * statement_row ≤ length t.statements
  unfolding counts_good
  rows-there = ltb-false _ _ (not-true _ (all-at (counts (program_from bits t)) 3 (counts-good bits t w) (omega arith)))

  pub few-parameters : (s : ℕ) → s < t.count → (rows t s).kind ≡ 1 → (rows t s).b ≤ 8
  unfolding few_locals
  few-parameters s h e =
      leb-true _ _
      (given-then (eqb (rows t s).kind 1) (leb (rows t s).b parameters)
      (both_left (given (eqb (rows t s).kind 1) (leb (rows t s).b parameters)) (given (eqb (rows t s).kind 5) (ltb (locals_at (rows t) s) locals)) (few-at bits t w s h))
      (eq-eqb _ _ e))

  -- the frame size of a function is 3 + its parameters at least, and below 65,535
  pub record Size (s : ℕ) : Type 0 where
    pub head : 3 + (rows t s).b ≤ (rows t s).a
    pub no-mark : (rows t s).a < 65535

  pub marks : (s : ℕ) → s < t.count → (rows t s).kind ≡ 1 → Size s
  unfolding frame_size
  marks s h e =
      record {
        head = omega (arith, size_is bits t w s h e);
        no-mark = omega (arith, size_is bits t w s h e, few-parameters s h e, need-most (rows t) t.count 17 s few-rows);
      }

  module _ (n : ℕ) (h : n < t.count) where
    -- the frame size of row n's function
    pub size-here : size_at (rows t) t.count n ≡ (rows t (rows t n).func).a
    unfolding size_at
    size-here = if_true-yes (rows t (rows t n).func).a 0 (function-sound bits t w n h)

    pub size-at : Size (rows t n).func
    size-at = marks (rows t n).func (omega (arith, (row-held bits t w n h).before)) (row-held bits t w n h).is-function

    -- ---- what 35 looks for

    pub no-fault : row_fault (program_from bits t) n ≡ false
    no-fault = row-sound bits t w n h

    -- ---- calls

    pub record Callee : Type 0 where
      pub within : (rows t n).callee < t.count
      pub is-function : (rows t (rows t n).callee).kind ≡ 1
      pub arguments : (rows t (rows t n).callee).b ≡ (rows t n).count
      pub few : (rows t n).count ≤ 8

    call-tests : List Bool
    call-tests =
        ltb (rows t n).callee t.count
        ∷ eqb (rows t (rows t n).callee).kind 1
        ∷ eqb (rows t (rows t n).callee).b (rows t n).count
        ∷ leb (rows t n).count 8
        ∷ labelled (labels_of t) t.label_count is_function_label (rows t n).callee
        ∷ []

    pub callee-facts : is_call (rows t n).kind (rows t n).expr ≡ true → Callee
    unfolding function_calls call-tests
    callee-facts e =
        let q : all call-tests ≡ true = given-then (is_call (rows t n).kind (rows t n).expr) (all call-tests) (function-calls bits t w n h) e in
        record {
          within = ltb-true _ _ (all-at call-tests 0 q (omega arith));
          is-function = eqb-true _ _ (all-at call-tests 1 q (omega arith));
          arguments = eqb-true _ _ (all-at call-tests 2 q (omega arith));
          few = leb-true _ _ (all-at call-tests 3 q (omega arith));
        }

    -- ---- calls of imported functions

    pub record Imported : Type 0 where
      pub within : (rows t n).callee < t.label_count
      pub is-import : (labels_of t (rows t n).callee).kind ≡ 6
      pub arguments : (labels_of t (rows t n).callee).arguments ≡ (rows t n).count
      pub few : (rows t n).count ≤ 8

    import-tests : List Bool
    import-tests =
        ltb (rows t n).callee t.label_count
        ∷ eqb (labels_of t (rows t n).callee).kind 6
        ∷ eqb (labels_of t (rows t n).callee).arguments (rows t n).count
        ∷ leb (rows t n).count 8
        ∷ []

    pub import-facts : is_import (rows t n).kind (rows t n).expr ≡ true → Imported
    unfolding import_calls import-tests
    import-facts e =
        let q : all import-tests ≡ true = given-then (is_import (rows t n).kind (rows t n).expr) (all import-tests) (import-calls bits t w n h) e in
        record {
          within = ltb-true _ _ (all-at import-tests 0 q (omega arith));
          is-import = eqb-true _ _ (all-at import-tests 1 q (omega arith));
          arguments = eqb-true _ _ (all-at import-tests 2 q (omega arith));
          few = leb-true _ _ (all-at import-tests 3 q (omega arith));
        }

    -- ---- operands

    -- operand j is of a listed kind, its word in the frame, its address in the data
    pub operand-words : (j : ℕ) → operand_fault (rows t (rows t n).func).a t.data_length (get_or (rows t n).operands j (Constant 0)) ≡ false
    unfolding operands_fault operand_fault
    operand-words j =
        none-at (operand_fault (rows t (rows t n).func).a t.data_length) (rows t n).operands j (Constant 0) refl
        (ap (λ (x : ℕ). some_of (operand_fault x t.data_length) (rows t n).operands) (sym size-here) ∙ operands-sound bits t w n h)

    pub record AddressGood : Type 0 where
      pub listed : address_listed (rows t n).address ≡ true
      pub whole : operand_fault (rows t (rows t n).func).a t.data_length (rows t n).address ≡ false

    -- so is the operand behind the `@` of `set @`, which is no `@` operand itself
    pub address-words : (rows t n).kind ≡ 7 → AddressGood
    unfolding address_fault
    address-words e =
        parts (address_listed (rows t n).address) (operand_fault (size_at (rows t) t.count n) t.data_length (rows t n).address)
        (λ a b. record { listed = a; whole = ap (λ (x : ℕ). operand_fault x t.data_length (rows t n).address) (sym size-here) ∙ b })
        (then (eqb (rows t n).kind 7) (one_of (not (address_listed (rows t n).address)) (operand_fault (size_at (rows t) t.count n) t.data_length (rows t n).address)) (eq-eqb _ _ e) (address-sound bits t w n h))
      where
        then : (p q : Bool) → p ≡ true → both p q ≡ false → q ≡ false
        then true q e d = d
        then false q e d = true-false (sym e)

        parts : (p q : Bool) → (p ≡ true → q ≡ false → AddressGood) → one_of (not p) q ≡ false → AddressGood
        parts true q k e = k refl e
        parts false q k e = true-false e
