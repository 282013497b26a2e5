-- A step is not refused where the record stands in a good frame and every row it uses is good.
-- Assumes nothing.
use mathlib.Core.Path.{◌≡◌, refl, sym, ◌∙◌, ap}
use mathlib.Core.Bool.{Bool, true, false, not}
use mathlib.Core.List.{List, [], ◌∷◌, ◌++◌}
use Prim.Native.Nat.{ℕ, suc, ◌+◌, ◌*◌, ◌<◌, ◌≤◌}
use native.Mathlib.Decide.{ℕ_discrete}
use native.Mathlib.Omega.{arith}
use lib.ListN.{length, get_or}
use lib.Dec.{eqb, ltb, leb}
use borrow.Author.Tests.{eq-eqb, ne_eqb, lt-ltb, le-leb}
use Rattle.base_prelude.specs.Choice.{if_lt, if_true}
use Rattle.base_limits.specs.declared.Width.TheVariants.{Bits32}
use Rattle.base_limits.specs.declared.Machine.{Machine}
use Rattle.prog_tables.specs.Tests.{both, one_of, given, all}
use Rattle.prog_tables.specs.Statement.{Row, is_call, row_at}
use Rattle.prog_tables.specs.Program.{Program, lent_program}
use Rattle.prog_tables.specs.Faults.{in_function, size_at, row_fault}
use Rattle.vm_definitions.specs.Frames.{top_at_entry, leaves_frame, head_good, leaves_good, rows_left}
use Rattle.vm_definitions.specs.Broken.{lowest, or_else, next_bad, frame_ends, rows_used}
use Rattle.vm_definitions.specs.declared.Broken.{Broken}
use Rattle.vm_definitions.specs.declared.Broken.TheVariants.{No, At, Somewhere}
use Rattle.vm_guard.specs.Guard.{row_bad, record_good, with_record, within_broken}
use Rattle.vm_quick_operands.proofs.Good.{Function, function-good, row_within, row-size}
use Rattle.vm_quick_statements.proofs.Right.{InFrame, Went}
use Rattle.vm_quick_statements.proofs.ByKind.{leaves-not}
use Rattle.prog_tables.proofs.Each.{both_false}

-- ---- rows

pub next-fine : (f : ℕ → Row) (c n : ℕ) → eqb (f n).kind 1 ≡ false → in_function f c n ≡ true → next_bad f c n ≡ false
unfolding next_bad
next-fine f c n e q = rw (e, q)

pub row_fine : (p : Program) (n i : ℕ) → next_bad p.rows p.count n ≡ false → row_fault p i ≡ false → row_bad p n i ≡ false
unfolding row_bad
row_fine p n i q e = elim (ℕ_discrete i n) [
  | yes z ↦ rw (e, z, q) (both_false (eqb n n))
  | no z ↦ rw (e, ne_eqb i n z)
]

-- ---- the record

module _ (t : List ℕ) (c : ℕ) (lw : List ℕ) (lc g d size : ℕ) (r : Machine) (st m : List ℕ) (h : InFrame t c g size r st m) (below : r.next < c) (own : (row_at t r.next).func ≡ g) where
  abbrev prog : Program
  prog = lent_program t c lw lc d

  abbrev f : ℕ → Row
  f = row_at t

  abbrev row : Row
  row = row_at t r.next

  pub frame-fine : frame_ends f c r (length st) ≡ true
  unfolding frame_ends
  frame-fine =
      rw (row-size t c g size h.function r.next own, eq-eqb (r.frame + size) r.used h.ends, le-leb r.used (length st) h.room)

  pub record-fine : given (eqb row.kind 4) (leb (get_or st (r.frame + row.a) 0) (length m)) ≡ true
      → given (eqb row.kind 12) (leb (top_at_entry st r.frame) (length m)) ≡ true
      → given (leaves_frame row) (leaves_good Bits32 f c (length m) st (suc r.frame) r.frame) ≡ true → record_good prog (length m) r st ≡ true
  unfolding record_good all
  record-fine k4 k12 kr =
      rw (
        lt-ltb r.next c below,
        frame-fine,
        le-leb r.top (length m) h.top,
        le-leb (length m) 65536 h.memory,
        le-leb (length st) 16384 h.stack,
        h.head,
        k4,
        k12,
        kr,
      )

  -- the function of the next statement is good
  func-fine : row_fault prog row.func ≡ false
  func-fine = rw own (function-good t c g size h.function lw lc d)

  module _ (line : eqb row.kind 1 ≡ false) (good : row_fault prog r.next ≡ false) where
    pub next-good : next_bad f c r.next ≡ false
    next-good = next-fine f c r.next line (row_within t c g size h.function r.next own)

    own-rows : (is : List ℕ) → lowest (row_bad prog r.next) is ≡ No → lowest (row_bad prog r.next) (r.next ∷ row.func ∷ is) ≡ No
    unfolding lowest if_true
    own-rows is e = rw (row_fine prog r.next r.next next-good good, row_fine prog r.next row.func next-good func-fine) e

    broken-by : (is : List ℕ) → rows_used prog r st ≡ r.next ∷ row.func ∷ is → lowest (row_bad prog r.next) is ≡ No → record_good prog (length m) r st ≡ true
        → within_broken prog r st (length m) ≡ No
    unfolding within_broken with_record or_else if_true
    broken-by is u e q = rw (u, own-rows is e, q)

    -- a statement that neither calls nor returns
    pub plain-fine : is_call row.kind row.expr ≡ false → leaves_frame row ≡ false → record_good prog (length m) r st ≡ true
        → within_broken prog r st (length m) ≡ No
    unfolding rows_used if_lt if_true lowest
    plain-fine e q k = broken-by [] (rw (lt-ltb _ _ below, row_within t c g size h.function r.next own, e, q)) refl k

    -- one that calls
    pub call-fine : is_call row.kind row.expr ≡ true → row.callee < c → row_fault prog row.callee ≡ false → leaves_frame row ≡ false
        → record_good prog (length m) r st ≡ true → within_broken prog r st (length m) ≡ No
    unfolding rows_used if_lt if_true lowest
    call-fine e l p q k =
        broken-by (row.callee ∷ []) (rw (lt-ltb _ _ below, row_within t c g size h.function r.next own, e, lt-ltb _ _ l, q))
        (rw (row_fine prog r.next row.callee next-good p)) k

    -- one that returns to the call at row p
    pub return-fine : (p : ℕ) → is_call row.kind row.expr ≡ false → leaves_frame row ≡ true → frame_ends f c r (length st) ≡ true
        → rows_left Bits32 f c st (suc r.frame) r.frame ≡ p ∷ (f p).func ∷ [] → row_fault prog p ≡ false → row_fault prog (f p).func ≡ false
        → record_good prog (length m) r st ≡ true → within_broken prog r st (length m) ≡ No
    unfolding rows_used if_lt if_true lowest
    return-fine p e q k l x y z =
        broken-by (p ∷ (f p).func ∷ []) (rw (lt-ltb _ _ below, row_within t c g size h.function r.next own, e, q, k, l))
        (rw (row_fine prog r.next p next-good x, row_fine prog r.next (f p).func next-good y)) z

-- a statement of a plain run
pub went-fine : (t : List ℕ) (c : ℕ) (lw : List ℕ) (lc g d size : ℕ) (r : Machine) (st m : List ℕ) (i end : ℕ) (st' m' : List ℕ) → InFrame t c g size r st m → Went t c lw lc g d size r st m i end st' m'
    → within_broken (lent_program t c lw lc d) r st (length m) ≡ No
went-fine t c lw lc g d size r st m i end st' m' h w =
    let q = leaves-not (row_at t r.next) w.returns w.imports in
    plain-fine t c lw lc g d size r st m h w.below w.own w.line w.good w.calls q
    (record-fine t c lw lc g d size r st m h w.below w.own w.block (rw w.tail) (rw q))
