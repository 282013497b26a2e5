-- How strong `well_formed` is at the limits of 01: tables at a limit pass, tables one past it do not.
-- Assumes nothing.
use mathlib.Core.Path.{◌≡◌, refl, sym, ◌∙◌, ap}
use mathlib.Core.Bool.{Bool, true, false, not}
use mathlib.Core.List.{List, [], ◌∷◌, ◌++◌}
use Prim.Native.Nat.{ℕ, zero, suc, ◌+◌, ◌/◌, ◌%◌, ◌<◌, ◌≤◌}
use native.Mathlib.Omega.{arith}
use borrow.Author.Tests.{lt-ltb, le-ltb, le-leb}
use lib.Dec.{ltb, leb, eqb}
use lib.ListN.{length, get_or, replicate}
use Rattle.base_prelude.specs.Choice.{pick, if_lt, if_true}
use Rattle.base_prelude.proofs.Choice.{true-false}
use Rattle.base_limits.specs.Limits.{statements, parameters}
use Rattle.base_limits.specs.declared.Width.TheVariants.{Bits32}
use Rattle.lang_kinds.specs.Kinds as kind
use Rattle.prog_tables.specs.Layout.{frame_head, no_expression, plain, constant_operand, data_label, exported_function}
use Rattle.prog_tables.specs.Tests.{both, given, all, all_of, all_below, count_below, greatest_below}
use Rattle.prog_tables.specs.Statement.{Row, is_call, is_import, row_at}
use Rattle.prog_tables.specs.Label.{Tables, label_at}
use Rattle.prog_tables.specs.Program.{Program, program_from}
use Rattle.prog_tables.specs.Nesting.{stands, all_closed, has_target}
use Rattle.prog_tables.specs.Frames.{is_in, lets_before, block_need, need_of, frame_depth, frame_size}
use Rattle.prog_tables.specs.WellFormed.{shallow, aimed, jumps, function_calls, import_calls, calls, forward_calls, shaped, operand_good, operands_good, address_good, sets_local, framed, few_locals, row_tests, counts_good, row_good, well_formed}
use Rattle.prog_tables.specs.declared.Operand.TheVariants.{Unlisted}
use Rattle.prog_tables.proofs.Each.{both_true, all-at}
use Rattle.prog_tables.proofs.Opened.{opened}
use Rattle.prog_tables.proofs.Strong.{page}

-- a row of function 0 without an address operand; only the kind of its first operand is given, all numbers of operands are 0
abbrev row : ℕ → ℕ → ℕ → ℕ → ℕ → ℕ → ℕ → ℕ → ℕ → List ℕ
row k scope up a b expr callee count operand =
    (k ∷ 0 ∷ scope ∷ up ∷ a ∷ b ∷ expr ∷ callee ∷ count ∷ 0 ∷ 0 ∷ operand ∷ []) ++ replicate 15 0

-- the row of `function` with p parameters and s words, that of its end
abbrev function_row : ℕ → ℕ → List ℕ
function_row p s = row kind.function 0 0 s p 0 0 0 0

abbrev function_end : List ℕ
function_end = row kind.end_function 0 0 0 0 0 0 0 0

-- rows of one function, named f
abbrev function_of : List ℕ → ℕ → Tables
function_of rs n = record { statements = rs; count = n; labels = exported_function ∷ 0 ∷ 0 ∷ 1 ∷ []; label_count = 1; names = 102 ∷ replicate 63 0; data_length = 0 }

-- n rows `let x 0` from word w on
unfoldable pub lets : ℕ → ℕ → List ℕ
lets zero w = []
lets (suc n) w = row kind.let_local 0 1 w 0 plain 0 1 constant_operand ++ lets n (suc w)

-- a function with p parameters and n lets
abbrev locals_of : ℕ → ℕ → Tables
locals_of p n = function_of (function_row p (frame_head + p + n) ++ lets n (frame_head + p) ++ function_end) (n + 2)

-- n blocks one in the other, without lets, from row i on in scope s: i is 1 and s is 0, or s is the row before i
unfoldable pub nested : ℕ → ℕ → ℕ → List ℕ
nested zero i s = []
nested (suc n) i s = row kind.block s (suc s) (2 + i) 0 0 0 0 0 ++ nested n (suc i) i ++ row kind.end_block i (suc s) (2 + i) 0 0 0 0 0

-- a function without parameters and n such blocks
abbrev blocks_of : ℕ → Tables
blocks_of n = function_of (function_row 0 (frame_head + n) ++ nested n 1 0 ++ function_end) (n + n + 2)

-- page with d bytes of data
abbrev data_of : ℕ → Tables
data_of d = record { statements = page.statements; count = page.count; labels = page.labels; label_count = page.label_count; names = page.names; data_length = d }

-- a row of function 0 without operands
abbrev bare_row : ℕ → ℕ → ℕ → Row
bare_row k up a = record { kind = k; func = 0; scope = 0; up = up; a = a; b = 0; expr = no_expression; callee = 0; count = 0; address = Unlisted; operands = [] }

abbrev return_row : Row
return_row = bare_row kind.return 1 0

abbrev end_row : Row
end_row = bare_row kind.end_function 0 0

-- a function with n times `return`, without labels: as a view, for tables take long to read
abbrev return_rows : ℕ → ℕ → Row
return_rows n zero = bare_row kind.function 0 frame_head
return_rows n (suc i) = if_lt i n return_row end_row

abbrev returns_of : ℕ → Program
returns_of n =
    record {
      width = Bits32;
      rows = return_rows n;
      count = suc (suc n);
      labels = label_at [] [];
      label_count = 0;
      data_length = 0;
      statements_past = false;
      labels_past = false;
    }

-- no rows, and n labels of data with names of two bytes: as a view too
abbrev labels_of : ℕ → Program
labels_of n =
    record {
      width = Bits32;
      rows = row_at [];
      count = 0;
      labels = λ i. record { kind = data_label; number = 0; arguments = 0; size = 2; name = i / 2 ∷ i % 2 ∷ [] };
      label_count = n;
      data_length = 0;
      statements_past = false;
      labels_past = false;
    }

abbrev at32 : Tables → Program
at32 = program_from Bits32

-- ---- a function of n `return`s is good

none-counted : (p : ℕ → Bool) (c : ℕ) → ((i : ℕ) → p i ≡ false) → count_below p c ≡ 0
unfolding opened
none-counted p zero h = refl
none-counted p (suc c) h = rw (h c, none-counted p c h)

none-greater : (g : ℕ → ℕ) (c : ℕ) → ((i : ℕ) → g i ≡ 0) → greatest_below g c ≡ 0
unfolding opened
none-greater g zero h = refl
none-greater g (suc c) h = rw (h c, none-greater g c h)

no-let : (n i : ℕ) → is_in (return_rows n) kind.let_local 0 i ≡ false
unfolding opened
no-let n zero = refl
no-let n (suc i) = step (ltb i n)
  where
    step : (b : Bool) → both (eqb (pick b return_row end_row).kind kind.let_local) (eqb (pick b return_row end_row).scope 0) ≡ false
    step true = refl
    step false = refl

no_block : (n : ℕ) (need : ℕ → ℕ) (i : ℕ) → block_need (return_rows n) 0 need i ≡ 0
unfolding opened
no_block n need zero = refl
no_block n need (suc i) = step (ltb i n)
  where
    step : (b : Bool) → if_true (both (eqb (pick b return_row end_row).kind kind.block) (eqb (pick b return_row end_row).scope 0)) (suc (need (suc i))) 0 ≡ 0
    step true = refl
    step false = refl

-- the need of the frame is 0
no-need : (n : ℕ) → need_of (return_rows n) (suc (suc n)) frame_depth 0 ≡ 0
unfolding need_of lets_before
no-need n = rw (none-counted (is_in (return_rows n) kind.let_local 0) (suc (suc n)) (no-let n), none-greater (block_need (return_rows n) 0 _) (suc (suc n)) (no_block n _))

first-framed : (n : ℕ) → framed (return_rows n) (suc (suc n)) 0 ≡ true
unfolding framed frame_size all
first-framed n = rw (no-need n)

unless : (p q : Bool) → not p ≡ true → given p q ≡ true
unless true q h = true-false (sym h)
unless false q h = refl

unless-first : (p r q : Bool) → not p ≡ true → given (both p r) q ≡ true
unless-first true r q h = true-false (sym h)
unless-first false r q h = refl

-- what is asked of a row alone, where nothing but its place and its frame depends on other rows
abbrev quiet : Row → List Bool
quiet r =
    not (eqb r.kind kind.block)
    ∷ not (has_target r.kind)
    ∷ not (eqb r.kind kind.goto)
    ∷ not (is_call r.kind r.expr)
    ∷ shaped (λ i. r) 0
    ∷ not (eqb r.kind kind.set_at)
    ∷ not (eqb r.kind kind.set)
    ∷ given (eqb r.kind kind.function) (leb r.b parameters)
    ∷ not (eqb r.kind kind.let_local)
    ∷ not (is_import r.kind r.expr)
    ∷ []

quiet-good : (p : Program) (n : ℕ) → all (quiet (p.rows n)) ≡ true → (p.rows n).operands ≡ [] → stands p.rows n ≡ true
    → framed p.rows p.count n ≡ true → row_good p n ≡ true
unfolding row_tests all shallow aimed jumps calls function_calls import_calls forward_calls shaped operands_good address_good sets_local few_locals all_of
quiet-good p n q o h w =
    both_true _ _ h
    (both_true _ _ (unless (eqb (p.rows n).kind kind.block) _ (test 0 (omega arith)))
    (both_true _ _ (unless (has_target (p.rows n).kind) _ (test 1 (omega arith)))
    (both_true _ _ (unless (eqb (p.rows n).kind kind.goto) _ (test 2 (omega arith)))
    (both_true _ _ (both_true _ _ (unless (is_call (p.rows n).kind (p.rows n).expr) _ (test 3 (omega arith))) (unless (is_import (p.rows n).kind (p.rows n).expr) _ (test 9 (omega arith))))
    (both_true (shaped p.rows n) _ (test 4 (omega arith))
    (both_true _ _ (ap (all_of (operand_good p n)) o)
    (both_true _ _ (unless (eqb (p.rows n).kind kind.set_at) _ (test 5 (omega arith)))
    (both_true _ _ (unless (eqb (p.rows n).kind kind.set) _ (test 6 (omega arith)))
    (both_true _ _ w
    (both_true _ _ (both_true _ _ (test 7 (omega arith)) (unless (eqb (p.rows n).kind kind.let_local) _ (test 8 (omega arith))))
    (both_true _ _ (unless-first (is_call (p.rows n).kind (p.rows n).expr) _ _ (test 3 (omega arith))) refl)))))))))))
  where
    test : (k : ℕ) → k < length (quiet (p.rows n)) → get_or (quiet (p.rows n)) k true ≡ true
    test k = all-at (quiet (p.rows n)) k q

first-quiet : all (quiet (bare_row kind.function 0 frame_head)) ≡ true
unfolding opened
first-quiet = refl

first-stands : (n : ℕ) → stands (return_rows n) 0 ≡ true
unfolding opened
first-stands n = refl

first_good : (n : ℕ) → row_good (returns_of n) 0 ≡ true
first_good n = quiet-good (returns_of n) 0 first-quiet refl (first-stands n) (first-framed n)

return-stands : (n i : ℕ) → i < n → stands (return_rows n) (suc i) ≡ true
unfolding opened
return-stands n zero h = rw (lt-ltb 0 n h)
return-stands n (suc i) h = rw (lt-ltb (suc i) n h, lt-ltb i n (omega arith))

end-stands : (n : ℕ) → stands (return_rows n) (suc n) ≡ true
unfolding opened
end-stands zero = refl
end-stands (suc n) = rw (le-ltb (suc n) (suc n) (omega arith), lt-ltb n (suc n) (omega arith))

framed-other : (f : ℕ → Row) (c n : ℕ) (b : Bool) → (f n).kind ≡ (pick b return_row end_row).kind → framed f c n ≡ true
unfolding framed all
framed-other f c n true e = rw e
framed-other f c n false e = rw e

-- `return` or `end function`
inner-good : (n i : ℕ) (b : Bool) → return_rows n (suc i) ≡ pick b return_row end_row → stands (return_rows n) (suc i) ≡ true → row_good (returns_of n) (suc i) ≡ true
unfolding opened
inner-good n i b e h = quiet-good (returns_of n) (suc i) (ap (λ (r : Row). all (quiet r)) e ∙ calm b) (ap (λ (r : Row). r.operands) e ∙ bare b) h (framed-other (return_rows n) (suc (suc n)) (suc i) b (ap (λ (r : Row). r.kind) e))
  where
    calm : (c : Bool) → all (quiet (pick c return_row end_row)) ≡ true
    calm true = refl
    calm false = refl

    bare : (c : Bool) → (pick c return_row end_row).operands ≡ []
    bare true = refl
    bare false = refl

return-good : (n i : ℕ) → i < n → row_good (returns_of n) (suc i) ≡ true
unfolding if_lt
return-good n i h = inner-good n i true (rw (lt-ltb i n h)) (return-stands n i h)

end-good : (n : ℕ) → row_good (returns_of n) (suc n) ≡ true
unfolding if_lt
end-good n = inner-good n n false (rw (le-ltb n n (omega arith))) (end-stands n)

rows-good : (n i : ℕ) → i ≤ n → all_below (row_good (returns_of n)) (suc i) ≡ true
unfolding all_below
rows-good n zero h = both_true _ _ (first_good n) refl
rows-good n (suc i) h = both_true _ _ (return-good n i h) (rows-good n i (omega arith))

closed : (n : ℕ) → all_closed (return_rows n) (suc (suc n)) ≡ true
unfolding opened
closed n = rw (le-ltb n n (omega arith))

returns-good : (n : ℕ) → suc (suc n) ≤ statements → well_formed (returns_of n) ≡ true
unfolding well_formed counts_good all all_below all_closed
returns-good n h =
    both_true _ _ (both_true _ _ (le-leb (suc (suc n)) statements h) refl)
    (both_true _ _ (closed n) (both_true _ _ (both_true _ _ (end-good n) (rows-good n n (omega arith))) refl))

pub record AtLimits : Type 0 where
  -- "parameters and arguments 8"
  pub parameters-8 : well_formed (at32 (locals_of 8 0)) ≡ true
  pub parameters-9 : well_formed (at32 (locals_of 9 0)) ≡ false
  -- "blocks nested 16 deep"
  pub blocks-16 : well_formed (at32 (blocks_of 16)) ≡ true
  pub blocks-17 : well_formed (at32 (blocks_of 17)) ≡ false
  -- "locals in scope 64, parameters and shadowed ones included"
  pub locals-64 : well_formed (at32 (locals_of 8 56)) ≡ true
  pub locals-65 : well_formed (at32 (locals_of 8 57)) ≡ false
  -- "data 32,768 bytes"
  pub data-32768 : well_formed (at32 (data_of 32768)) ≡ true
  pub data-32769 : well_formed (at32 (data_of 32769)) ≡ false
  -- "labels 256"
  pub labels-256 : well_formed (labels_of 256) ≡ true
  pub labels-257 : well_formed (labels_of 257) ≡ false
  -- "statements 1,024"
  pub statements-1024 : well_formed (returns_of 1022) ≡ true
  pub statements-1025 : well_formed (returns_of 1023) ≡ false

pub at-limits : AtLimits
unfolding opened lets nested
at-limits = record { parameters-8 = refl; parameters-9 = refl; blocks-16 = refl; blocks-17 = refl; locals-64 = refl; locals-65 = refl; data-32768 = refl; data-32769 = refl; labels-256 = refl; labels-257 = refl; statements-1024 = returns-good 1022 (omega arith); statements-1025 = refl }
