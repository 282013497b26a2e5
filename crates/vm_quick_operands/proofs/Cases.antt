-- The ways through operands, expressions and functions that are tested and read at once.
-- Assumes nothing.
use Rattle.std.proofs.Common.{Err, None, Option, Some}
use Rattle.vm_definitions.specs.Operands.{Worked, valued}
use mathlib.Core.Path.{◌≡◌}
use mathlib.Core.List.{List}
use Prim.Native.Nat.{ℕ, ◌+◌, ◌*◌, ◌<◌, ◌≤◌}
use lib.ListN.{get_or}
use borrow.Author.Tests.{ne_eqb, lt-ltb, le-ltb, le-leb, lt-leb}
use Rattle.base_prelude.specs.Choice.{if_lt, if_eq, if_true}
use Rattle.base_limits.specs.declared.Width.TheVariants.{Bits32}
use Rattle.prog_tables.specs.Statement.{expression_uses, operand_of, operand_at, row_from, row_at}
use Rattle.prog_tables.specs.Faults.{operand_fault}
use Rattle.vm_definitions.specs.Operands.{is_at, number_in, fetch_of, read_of, on_read}
use Rattle.vm_definitions.proofs.Words.{word-32}
use Rattle.vm_definitions.specs.Operators.{applied}
use Rattle.vm_quick_operands.specs.Fast.{good_read, one_read, two_read, good_work, size_of}

-- ---- operands

module _ (t : List ℕ) (size d : ℕ) (st : List ℕ) (s : ℕ) (m : List ℕ) (i k v : ℕ) (e : k ≡ get_or t i 0) (g : v ≡ get_or t (i + 1) 0) where
  pub read-constant : v < 4294967296 → k ≡ 1 → Some v ≡ good_read size d st s m (operand_at t i)
  unfolding good_read operand_at operand_of operand_fault read_of is_at number_in if_eq if_true
  read-constant f h = rw (← e, h, ← g, word-32 v f)

  pub read-local : (x : ℕ) → k ≡ 2 → v < size → x ≡ get_or st (s + v) 0 → Some x ≡ good_read size d st s m (operand_at t i)
  unfolding good_read operand_at operand_of operand_fault read_of is_at number_in if_eq if_true
  read-local x h l q = rw (← e, h, ← g, lt-leb size v l, q)

  pub read-local-past : k ≡ 2 → size ≤ v → None ≡ good_read size d st s m (operand_at t i)
  unfolding good_read operand_at operand_of operand_fault if_eq if_true
  read-local-past h l = rw (← e, h, ← g, le-leb size v l)

  pub read-address : v < 4294967296 → k ≡ 3 → v ≤ d → Some v ≡ good_read size d st s m (operand_at t i)
  unfolding good_read operand_at operand_of operand_fault read_of is_at number_in if_eq if_true
  read-address f h l = rw (← e, h, ← g, le-ltb d v l, word-32 v f)

  pub read-address-past : k ≡ 3 → d < v → None ≡ good_read size d st s m (operand_at t i)
  unfolding good_read operand_at operand_of operand_fault if_eq if_true
  read-address-past h l = rw (← e, h, ← g, lt-ltb d v l)

  pub read-at-constant : (r : Option ℕ) → v < 4294967296 → k ≡ 4 → r ≡ fetch_of Bits32 m v → r ≡ good_read size d st s m (operand_at t i)
  unfolding good_read operand_at operand_of operand_fault read_of is_at number_in if_eq if_true
  read-at-constant r f h q = rw (← e, h, ← g, word-32 v f) q

  pub read-at-local : (x : ℕ) (r : Option ℕ) → k ≡ 5 → v < size → x ≡ get_or st (s + v) 0 → r ≡ fetch_of Bits32 m x → r ≡ good_read size d st s m (operand_at t i)
  unfolding good_read operand_at operand_of operand_fault read_of is_at number_in if_eq if_true
  read-at-local x r h l p q = rw (← e, h, ← g, lt-leb size v l, ← p) q

  pub read-at-local-past : k ≡ 5 → size ≤ v → None ≡ good_read size d st s m (operand_at t i)
  unfolding good_read operand_at operand_of operand_fault if_eq if_true
  read-at-local-past h l = rw (← e, h, ← g, le-leb size v l)

  pub read-at-address : (r : Option ℕ) → v < 4294967296 → k ≡ 6 → v ≤ d → r ≡ fetch_of Bits32 m v → r ≡ good_read size d st s m (operand_at t i)
  unfolding good_read operand_at operand_of operand_fault read_of is_at number_in if_eq if_true
  read-at-address r f h l q = rw (← e, h, ← g, le-ltb d v l, word-32 v f) q

  pub read-at-address-past : k ≡ 6 → d < v → None ≡ good_read size d st s m (operand_at t i)
  unfolding good_read operand_at operand_of operand_fault if_eq if_true
  read-at-address-past h l = rw (← e, h, ← g, lt-ltb d v l)

  pub read-unlisted : (k ≡ 1 → ⊥) → (k ≡ 2 → ⊥) → (k ≡ 3 → ⊥) → (k ≡ 4 → ⊥) → (k ≡ 5 → ⊥) → (k ≡ 6 → ⊥) → None ≡ good_read size d st s m (operand_at t i)
  unfolding good_read operand_at operand_of operand_fault if_eq if_true
  read-unlisted a1 a2 a3 a4 a5 a6 = rw (← e, ne_eqb k 1 a1, ne_eqb k 2 a2, ne_eqb k 3 a3, ne_eqb k 4 a4, ne_eqb k 5 a5, ne_eqb k 6 a6)

pub ruleset reading = (
  read-constant,
  read-local,
  read-local-past,
  read-address,
  read-address-past,
  read-at-constant,
  read-at-local,
  read-at-local-past,
  read-at-address,
  read-at-address-past,
  read-unlisted,
)

-- ---- expressions

module _ (t : List ℕ) (at size d : ℕ) (st : List ℕ) (s : ℕ) (m : List ℕ) (top e : ℕ) (f : Option ℕ)
    (p : f ≡ good_read size d st s m (operand_at t (at + 11))) where
  pub one-unread : f ≡ None → Err 32 ≡ one_read t at size d st s m top e
  unfolding one_read on_read
  one-unread h = rw (← p, h)

  pub one_plain : (x : ℕ) → f ≡ Some x → e ≡ 1 → valued x top ≡ one_read t at size d st s m top e
  unfolding one_read on_read if_eq
  one_plain x h q = rw (← p, h, q)

  pub one-applied : (x : ℕ) (r : Worked) → f ≡ Some x → (e ≡ 1 → ⊥) → r ≡ applied Bits32 m top e x 0 → r ≡ one_read t at size d st s m top e
  unfolding one_read on_read if_eq
  one-applied x r h n q = rw (← p, h, ne_eqb e 1 n) q

  pub two-unread : f ≡ None → Err 32 ≡ two_read t at size d st s m top e
  unfolding two_read on_read
  two-unread h = rw (← p, h)

  module _ (x : ℕ) (h : f ≡ Some x) (g : Option ℕ) (q : g ≡ good_read size d st s m (operand_at t (at + 13))) where
    pub two-half : g ≡ None → Err 32 ≡ two_read t at size d st s m top e
    unfolding two_read on_read
    two-half z = rw (← p, h, ← q, z)

    pub two-applied : (y : ℕ) (r : Worked) → g ≡ Some y → r ≡ applied Bits32 m top e x y → r ≡ two_read t at size d st s m top e
    unfolding two_read on_read
    two-applied y r z o = rw (← p, h, ← q, z) o

pub ruleset ones = (one-unread, one_plain, one-applied)

pub ruleset twos = (two-unread, two-half, two-applied)

module _ (t : List ℕ) (at size d : ℕ) (st : List ℕ) (s : ℕ) (m : List ℕ) (top e k : ℕ) (p : e ≡ get_or t (at + 6) 0) (q : k ≡ expression_uses e 0) where
  pub work-one : (r : Worked) → k ≡ 1 → r ≡ one_read t at size d st s m top e → r ≡ good_work t at size d st s m top
  unfolding good_work if_eq
  work-one r h z = rw (← p, ← q, h) z

  pub work-two : (r : Worked) → k ≡ 2 → r ≡ two_read t at size d st s m top e → r ≡ good_work t at size d st s m top
  unfolding good_work if_eq
  work-two r h z = rw (← p, ← q, h) z

  pub work_none : (k ≡ 1 → ⊥) → (k ≡ 2 → ⊥) → Err 0 ≡ good_work t at size d st s m top
  unfolding good_work if_eq
  work_none a b = rw (← p, ← q, ne_eqb k 1 a, ne_eqb k 2 b)

pub ruleset working = (work-one, work-two, work_none)

-- ---- functions

module _ (t : List ℕ) (c g : ℕ) where
  pub size-past : c ≤ g → 0 ≡ size_of (row_at t) c g
  unfolding size_of if_lt
  size-past l = rw (le-ltb g c l)

  module _ (k : ℕ) (l : g < c) (e : k ≡ get_or t (g * 27) 0) where
    pub size-other : (k ≡ 1 → ⊥) → 0 ≡ size_of (row_at t) c g
    unfolding size_of if_lt if_eq row_at row_from
    size-other n = rw (lt-ltb g c l, ← e, ne_eqb k 1 n)

    module _ (size p : ℕ) (h : k ≡ 1) (a : size ≡ get_or t (g * 27 + 4) 0) (b : p ≡ get_or t (g * 27 + 5) 0) where
      pub size_small : size < 3 + p → 0 ≡ size_of (row_at t) c g
      unfolding size_of if_lt if_eq row_at row_from
      size_small q = rw (lt-ltb g c l, ← e, h, ← a, ← b, lt-ltb size (3 + p) q)

      pub size-good : 3 + p ≤ size → size ≡ size_of (row_at t) c g
      unfolding size_of if_lt if_eq row_at row_from
      size-good q = rw (lt-ltb g c l, ← e, h, ← a, ← b, le-ltb size (3 + p) q)

pub ruleset sizing = (size-past, size-other, size_small, size-good)
