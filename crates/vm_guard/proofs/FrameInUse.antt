-- The ways through the test of the frame in use.
-- Assumes nothing.
use mathlib.Core.Path.{◌≡◌}
use mathlib.Core.Bool.{Bool, true, false}
use mathlib.Core.List.{List}
use Prim.Native.Nat.{ℕ, ◌+◌, ◌<◌, ◌≤◌}
use lib.ListN.{length}
use borrow.Author.Tests.{eq-eqb, ne_eqb, lt-ltb, le-ltb}
use Rattle.base_prelude.specs.Choice.{if_lt, if_eq, if_true}
use Rattle.base_limits.specs.declared.Width.TheVariants.{Bits32}
use Rattle.base_limits.specs.declared.Machine.{Machine}
use Rattle.prog_tables.specs.Statement.{Row, row_at}
use Rattle.vm_definitions.specs.Frames.{head_good}
use Rattle.vm_quick_operands.specs.Fast.{size_of}
use Rattle.vm_guard.specs.FrameInUse.{frame_good, good_frame_size}

module _ (f : ℕ → Row) (c m : ℕ) (r : Machine) (z : ℕ) (st : List ℕ) where
  pub frame-good-top : m < r.top → false ≡ frame_good f c m r z st
  unfolding frame_good if_lt
  frame-good-top l = rw (lt-ltb m r.top l)

  module _ (o : r.top ≤ m) where
    pub frame-good-memory : 65536 < m → false ≡ frame_good f c m r z st
    unfolding frame_good if_lt
    frame-good-memory l = rw (le-ltb m r.top o, lt-ltb 65536 m l)

    module _ (p : m ≤ 65536) where
      pub frame-good-stack : 16384 < length st → false ≡ frame_good f c m r z st
      unfolding frame_good if_lt
      frame-good-stack l = rw (le-ltb m r.top o, le-ltb 65536 m p, lt-ltb 16384 (length st) l)

      module _ (q : length st ≤ 16384) where
        pub frame-good-past : length st < r.used → false ≡ frame_good f c m r z st
        unfolding frame_good if_lt
        frame-good-past l = rw (le-ltb m r.top o, le-ltb 65536 m p, le-ltb 16384 (length st) q, lt-ltb (length st) r.used l)

        module _ (l : r.used ≤ length st) where
          pub frame-good-apart : (r.frame + z ≡ r.used → ⊥) → false ≡ frame_good f c m r z st
          unfolding frame_good if_lt if_eq
          frame-good-apart n =
              rw (le-ltb m r.top o, le-ltb 65536 m p, le-ltb 16384 (length st) q, le-ltb (length st) r.used l, ne_eqb (r.frame + z) r.used n)

          pub frame-good-head : (b : Bool) → r.frame + z ≡ r.used → b ≡ head_good Bits32 f c st r.frame → b ≡ frame_good f c m r z st
          unfolding frame_good if_lt if_eq
          frame-good-head b e h =
              rw (le-ltb m r.top o, le-ltb 65536 m p, le-ltb 16384 (length st) q, le-ltb (length st) r.used l, eq-eqb (r.frame + z) r.used e) h

pub ruleset frame-good-ways = (frame-good-top, frame-good-memory, frame-good-stack, frame-good-past, frame-good-apart, frame-good-head)

module _ (t : List ℕ) (c m : ℕ) (r : Machine) (st : List ℕ) where
  pub frame-size-past : c ≤ r.next → 0 ≡ good_frame_size (row_at t) c m r st
  unfolding good_frame_size if_lt
  frame-size-past l = rw (le-ltb r.next c l)

  module _ (g z : ℕ) (b : Bool) (l : r.next < c) (e : g ≡ (row_at t r.next).func) (h : z ≡ size_of (row_at t) c g) (q : b ≡ frame_good (row_at t) c m r z st) where
    pub frame-size-not : b ≡ false → 0 ≡ good_frame_size (row_at t) c m r st
    unfolding good_frame_size if_lt if_true
    frame-size-not y = rw (lt-ltb r.next c l, ← e, ← h, ← q, y)

    pub frame-size-good : b ≡ true → z ≡ good_frame_size (row_at t) c m r st
    unfolding good_frame_size if_lt if_true
    frame-size-good y = rw (lt-ltb r.next c l, ← e, ← h, ← q, y)

pub ruleset frame-size-ways = (frame-size-past, frame-size-not, frame-size-good)
