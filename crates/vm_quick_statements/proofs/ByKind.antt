-- What a kind alone says of its row: one that neither calls, returns, tests nor opens or closes anything.
-- Assumes nothing.
use mathlib.Core.Path.{◌≡◌, refl, sym}
use mathlib.Core.Bool.{Bool, true, false}
use Prim.Native.Nat.{ℕ}
use lib.Dec.{eqb}
use Rattle.base_prelude.specs.Choice.{pick, if_lt, if_eq, if_true}
use Rattle.base_prelude.proofs.Choice.{true-false}
use Rattle.prog_tables.specs.Tests.{one_of}
use Rattle.prog_tables.specs.Statement.{Row, has_expression, is_test, is_call_row, is_call, is_import, is_call_expression}
use Rattle.prog_tables.specs.Nesting.{is_listed, has_target}
use Rattle.prog_tables.specs.Faults.{has_word}
use Rattle.vm_definitions.specs.Frames.{is_return, importing, returns_import, leaves_frame}

-- ---- rows that call nothing

pub plain-call : (k e : ℕ) → is_call_row k ≡ false → is_call_expression e ≡ false → is_call k e ≡ false
unfolding is_call is_call_expression if_eq if_true
plain-call k e = by (eqb k 11) (eqb k 12) (eqb e 2) (eqb e 3) (has_expression k)
  where
    by : (a b x y h : Bool) → pick a true b ≡ false → pick x true y ≡ false → pick y false (pick a true (pick b true (pick h x false))) ≡ false
    by a b true y h q z = true-false z
    by a b false true h q z = true-false z
    by true b false false h q z = true-false q
    by false true false false h q z = true-false q
    by false false false false true q z = refl
    by false false false false false q z = refl

pub plain-import : (k e : ℕ) → is_call_expression e ≡ false → is_import k e ≡ false
unfolding is_import is_call_expression if_eq
plain-import k e = by (eqb e 2) (eqb e 3) _
  where
    by : (x y a : Bool) → pick x true y ≡ false → pick y a false ≡ false
    by true y a z = true-false z
    by false true a z = true-false z
    by false false a z = refl

pub leaves-not : (r : Row) → is_return r ≡ false → importing r ≡ false → leaves_frame r ≡ false
unfolding leaves_frame returns_import
leaves-not r e q = rw (e, q)

-- h: it has an expression
pub record Inner (k : ℕ) (h : Bool) : Type 0 where
  pub listed : is_listed k ≡ true
  pub has : has_expression k ≡ h
  pub own : has_word k ≡ h
  pub row : is_call_row k ≡ false
  pub test : is_test k ≡ false
  pub function : eqb k 1 ≡ false
  pub end : eqb k 2 ≡ false
  pub block : eqb k 3 ≡ false
  pub leaves : eqb k 4 ≡ false
  pub at : eqb k 7 ≡ false
  pub byte : eqb k 8 ≡ false
  pub word : eqb k 9 ≡ false
  pub bare : eqb k 11 ≡ false
  pub tail : eqb k 12 ≡ false
  pub returns : eqb k 13 ≡ false
  pub close : eqb k 22 ≡ false

-- `let` and `set` of a local
pub record Sets (k : ℕ) : Type 0 where
  pub inner : Inner k true
  pub sets : one_of (eqb k 5) (eqb k 6) ≡ true
  pub aimless : one_of (has_target k) (eqb k 10) ≡ false

-- `goto`, `else`, the jump of an `else if..` line
pub record Jumps (k : ℕ) : Type 0 where
  pub inner : Inner k false
  pub no-let : eqb k 5 ≡ false
  pub no-set : eqb k 6 ≡ false

module _ where
  inner-5 : Inner 5 true
  unfolding is_listed has_expression has_word is_test if_lt if_eq
  inner-5 = record { listed = refl; has = refl; own = refl; row = refl; test = refl; function = refl; end = refl; block = refl; leaves = refl; at = refl; byte = refl; word = refl; bare = refl; tail = refl; returns = refl; close = refl }

  inner-6 : Inner 6 true
  unfolding is_listed has_expression has_word is_test if_lt if_eq
  inner-6 = record { listed = refl; has = refl; own = refl; row = refl; test = refl; function = refl; end = refl; block = refl; leaves = refl; at = refl; byte = refl; word = refl; bare = refl; tail = refl; returns = refl; close = refl }

  pub let-sets : Sets 5
  unfolding has_target is_test if_lt if_eq if_true
  let-sets = record { inner = inner-5; sets = refl; aimless = refl }

  pub set-sets : Sets 6
  unfolding has_target is_test if_lt if_eq if_true
  set-sets = record { inner = inner-6; sets = refl; aimless = refl }

  pub goto-jumps : Jumps 10
  unfolding is_listed has_expression has_word is_test if_lt if_eq
  goto-jumps =
      record {
        inner = record { listed = refl; has = refl; own = refl; row = refl; test = refl; function = refl; end = refl; block = refl; leaves = refl; at = refl; byte = refl; word = refl; bare = refl; tail = refl; returns = refl; close = refl };
        no-let = refl;
        no-set = refl;
      }

  pub else-jumps : Jumps 20
  unfolding is_listed has_expression has_word is_test if_lt if_eq
  else-jumps =
      record {
        inner = record { listed = refl; has = refl; own = refl; row = refl; test = refl; function = refl; end = refl; block = refl; leaves = refl; at = refl; byte = refl; word = refl; bare = refl; tail = refl; returns = refl; close = refl };
        no-let = refl;
        no-set = refl;
      }

  pub else-if-jumps : Jumps 21
  unfolding is_listed has_expression has_word is_test if_lt if_eq
  else-if-jumps =
      record {
        inner = record { listed = refl; has = refl; own = refl; row = refl; test = refl; function = refl; end = refl; block = refl; leaves = refl; at = refl; byte = refl; word = refl; bare = refl; tail = refl; returns = refl; close = refl };
        no-let = refl;
        no-set = refl;
      }

-- ---- choices by the kind that have one answer

pub one_of_two : {X : Type 0} (a b : Bool) (x y : X) → one_of a b ≡ true → pick a x (pick b x y) ≡ x
one_of_two true b x y h = refl
one_of_two false true x y h = refl
one_of_two false false x y h = true-false (sym h)

pub all_three : {X : Type 0} (a b c : Bool) (x : X) → pick a x (pick b x (pick c x x)) ≡ x
all_three true b c x = refl
all_three false true c x = refl
all_three false false true x = refl
all_three false false false x = refl
