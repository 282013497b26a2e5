-- The ways through the functions of calls and returns.
-- Assumes nothing.
use Rattle.std.proofs.Common.{Option, Some, None}
use mathlib.Core.Path.{◌≡◌, refl, sym, ◌∙◌, ap}
use mathlib.Core.Bool.{Bool, true, false}
use mathlib.Core.List.{List, [], ◌∷◌}
use Prim.Native.Nat.{ℕ, suc, ◌+◌, ◌-◌, ◌*◌, ◌<◌, ◌≤◌, min}
use native.Mathlib.Omega.{arith}
use lib.ListN.{length, set, take, get_or}
use lib.Dec.{eqb, ltb}
use borrow.Author.Tests.{lt-ltb, le-ltb, eq-eqb, ne_eqb}
use Rattle.base_prelude.specs.Choice.{if_lt, if_eq, if_true}
use Rattle.base_limits.specs.declared.Width.TheVariants.{Bits32}
use Rattle.base_limits.specs.declared.Machine.{Machine}
use Rattle.base_limits.specs.Record.{stopped, moved_to, ended}
use Rattle.base_word.specs.Bytes.{word_bytes}
use Rattle.prog_tables.specs.Statement.{Row, row_at, slots}
use Rattle.prog_tables.specs.Program.{rows_alone}
use Rattle.prog_tables.specs.declared.Operand.{Operand}
use Rattle.vm_definitions.specs.Access.{word_good, store_from}
use Rattle.vm_definitions.specs.Operands.{Words, words, bad, number_in, read_all}
use Rattle.vm_definitions.specs.Frames.{returns_to, caller_frame, top_at_entry, frame_words, leaves_good, resumption_of}
use Rattle.vm_definitions.specs.Step.{effected, call_by, tail_call_by, handed_to, handed_by, arguments_of}
use Rattle.vm_definitions.specs.Lent.{world, left}
use Rattle.vm_definitions.specs.declared.Outcome.{Outcome}
use Rattle.vm_definitions.specs.declared.Resumption.{Resumption}
use Rattle.vm_definitions.specs.declared.Resumption.TheVariants.{Ends, Caller}
use Rattle.vm_calls.specs.Outcomes.{one_step, halted, after, calling, calling_with, at_calling, tail_calling, tail_calling_with, handing, handing_to, words_in, words_given, Calls}
use Rattle.vm_guard.proofs.Passed.{caller-low}
use Rattle.vm_calls.proofs.Reading.{arguments-are}
use Rattle.prog_tables.proofs.Ranges.{one_more_lem}

pub entered : (r q : Machine) (o : Outcome) (g at used top : ℕ) → q ≡ moved_to r (g + 1) at used top → o ≡ one_step q
    → o ≡ one_step (moved_to r (suc g) at used top)
entered r q o g at used top e d = d ∙ ap one_step (e ∙ ap (λ (n : ℕ). moved_to r n at used top) (one_more_lem g))

-- the part of the words from 0 on
pub built : (st st' ws : List ℕ) (k at back below top size : ℕ) → st' ≡ store_from st at (frame_words Bits32 back below top (take (k - 0) ws) size)
    → st' ≡ store_from st at (frame_words Bits32 back below top (take k ws) size)
built st st' ws k at back below top size e =
    let z : k - 0 ≡ k = omega arith in e ∙ ap (λ (n : ℕ). store_from st at (frame_words Bits32 back below top (take n ws) size)) z

-- a return of which all frames are good resumes below the last row
pub resumed-low : (t : List ℕ) (c m : ℕ) (st : List ℕ) (a : ℕ) (l : Resumption) (i s used top : ℕ) → leaves_good Bits32 (row_at t) c m st (suc a) a ≡ true
    → l ≡ resumption_of Bits32 (row_at t) c st (suc a) a → l ≡ Caller i s used top → i < c
resumed-low t c m st a l i s used top h e d = caller-low Bits32 (row_at t) c m st (suc a) a i s used top h (sym e ∙ d)

-- the head of a frame is kept
module _ (r : Machine) (st : List ℕ) (g size top : ℕ) (q : top ≡ get_or st (r.frame + 2) 0) where
  pub kept_top : (o : Outcome) → o ≡ one_step (moved_to r (suc g) r.frame (r.frame + size) top)
      → o ≡ one_step (moved_to r (suc g) r.frame (r.frame + size) (top_at_entry st r.frame))
  kept_top o p = p ∙ ap (λ (z : ℕ). one_step (moved_to r (suc g) r.frame (r.frame + size) z)) q

  pub kept-head : (st' ws : List ℕ) (back below : ℕ) → back ≡ get_or st r.frame 0 → below ≡ get_or st (r.frame + 1) 0
      → st' ≡ store_from st r.frame (frame_words Bits32 back below top ws size)
      → st' ≡ store_from st r.frame (frame_words Bits32 (returns_to st r.frame) (caller_frame st r.frame) (top_at_entry st r.frame) ws size)
  kept-head st' ws back below e d p = rw (← e, ← d, ← q) p

module _ (t : List ℕ) (c : ℕ) (r : Machine) (st m : List ℕ) where
  -- ---- new frames: g the callee, size its frame size, ws the words of which k are arguments

  module _ (ws : List ℕ) (k g size : ℕ) (o : Outcome) (e : g ≡ (row_at t r.next).callee) (d : size ≡ (row_at t g).a) where
    size_is : size ≡ (row_at t (row_at t r.next).callee).a
    size_is = d ∙ ap (λ (z : ℕ). (row_at t z).a) e

    pub push-full : length st < r.used + size → o ≡ halted r 33 → left o st m ≡ after (calling_with (words_in true ws k)) t c r st m
    unfolding call_by effected if_lt if_true
    push-full h q = rw (← size_is, lt-ltb _ _ h, q)

    pub push-fits : (st' : List ℕ) → r.used + size ≤ length st → o ≡ one_step (moved_to r (suc g) r.used (r.used + size) r.top)
        → st' ≡ store_from st r.used (frame_words Bits32 r.next r.frame r.top (take k ws) size)
        → left o st' m ≡ after (calling_with (words_in true ws k)) t c r st m
    unfolding call_by effected if_lt if_true
    push-fits st' h j s = rw (← size_is, ← e, le-ltb _ _ h, j, s)

    pub replace-full : length st < r.frame + size → o ≡ halted r 33 → left o st m ≡ after (tail_calling_with (words_in true ws k)) t c r st m
    unfolding tail_call_by effected if_lt if_true
    replace-full h q = rw (← size_is, lt-ltb _ _ h, q)

    pub replace-fits : (st' : List ℕ) → r.frame + size ≤ length st → o ≡ one_step (moved_to r (suc g) r.frame (r.frame + size) (top_at_entry st r.frame))
        → st' ≡ store_from st r.frame (frame_words Bits32 (returns_to st r.frame) (caller_frame st r.frame) (top_at_entry st r.frame) (take k ws) size)
        → left o st' m ≡ after (tail_calling_with (words_in true ws k)) t c r st m
    unfolding tail_call_by effected if_lt if_true
    replace-fits st' h j s = rw (← size_is, ← e, le-ltb _ _ h, j, s)

  -- ---- a call: x has the words, where all arguments were read

  module _ (x : Option (List ℕ)) (k : ℕ) (d : Calls (row_at t r.next) c) (e : k ≡ min (row_at t r.next).count 8)
      (u : words_given x k ≡ read_all Bits32 st r.frame m (take k (slots t (r.next * 27)))) where
    v : words_given x k ≡ arguments_of (rows_alone t c) (world r st m)
    v = arguments-are t c r st m x k d.used e u

    pub call-good : (ws : List ℕ) (o : Outcome) (st' : List ℕ) → x ≡ Some ws → left o st' m ≡ after (calling_with (words_in true ws k)) t c r st m
        → left o st' m ≡ after calling t c r st m
    unfolding effected if_true
    call-good ws o st' h q = q ∙ ap (λ (z : Words). effected (world r st m) (call_by (rows_alone t c) (world r st m) z)) (ap (λ (y : Option (List ℕ)). words_given y k) (sym h) ∙ v)

    pub call-bad : (o : Outcome) → x ≡ None → o ≡ halted r 32 → left o st m ≡ after calling t c r st m
    unfolding call_by effected if_true
    call-bad o h q = rw (← v, h, q)

    pub tail-good : (ws : List ℕ) (o : Outcome) (st' : List ℕ) → x ≡ Some ws → left o st' m ≡ after (tail_calling_with (words_in true ws k)) t c r st m
        → left o st' m ≡ after tail_calling t c r st m
    unfolding effected if_true
    tail-good ws o st' h q = q ∙ ap (λ (z : Words). effected (world r st m) (tail_call_by (rows_alone t c) (world r st m) z)) (ap (λ (y : Option (List ℕ)). words_given y k) (sym h) ∙ v)

    pub tail-bad : (o : Outcome) → x ≡ None → o ≡ halted r 32 → left o st m ≡ after tail_calling t c r st m
    unfolding tail_call_by effected if_true
    tail-bad o h q = rw (← v, h, q)

  -- ---- `set @` with a call

  module _ (y : Operand) (a : ℕ) (b : Bool) (e : y ≡ (row_at t r.next).address) (d : a ≡ number_in Bits32 st r.frame y) (i : b ≡ word_good Bits32 (length m) a) where
    pub at-good : (o : Outcome) (st' : List ℕ) → b ≡ true → left o st' m ≡ after calling t c r st m → left o st' m ≡ after at_calling t c r st m
    unfolding if_true
    at-good o st' h q = rw (← e, ← d, ← i, h) q

    pub at-bad : (o : Outcome) → b ≡ false → o ≡ halted r 32 → left o st m ≡ after at_calling t c r st m
    unfolding if_true effected
    at-bad o h q = rw (← e, ← d, ← i, h, q)

  -- ---- a value handed to the call at row i, whose frame is at s

  module _ (v i s k : ℕ) (q : Machine) (o : Outcome) (e : k ≡ (row_at t i).kind) where
    module _ (y : Operand) (a : ℕ) (b : Bool) (z : k ≡ 7) (d : y ≡ (row_at t i).address) (j : a ≡ number_in Bits32 st s y) (g : b ≡ word_good Bits32 (length m) a) where
      pub to-memory : (m' : List ℕ) → b ≡ true → m' ≡ store_from m a (word_bytes 4 v) → o ≡ one_step q → left o st m' ≡ after (handing_to v i s q) t c r st m
      unfolding handed_to effected if_eq if_true
      to-memory m' h x w = rw (← e, eq-eqb _ _ z, ← d, ← j, ← g, h, x, w)

      pub to-nowhere : b ≡ false → o ≡ halted r 32 → left o st m ≡ after (handing_to v i s q) t c r st m
      unfolding handed_to effected if_eq if_true
      to-nowhere h w = rw (← e, eq-eqb _ _ z, ← d, ← j, ← g, h, w)

    pub to-bare : k ≡ 11 → o ≡ one_step q → left o st m ≡ after (handing_to v i s q) t c r st m
    unfolding handed_to effected if_eq
    to-bare z w = rw (← e, z, w)

    pub to-local : (x : ℕ) (st' : List ℕ) → (k ≡ 7 → ⊥) → (k ≡ 11 → ⊥) → x ≡ (row_at t i).a → st' ≡ set st (s + x) v → o ≡ one_step q
        → left o st' m ≡ after (handing_to v i s q) t c r st m
    unfolding handed_to effected if_eq
    to-local x st' z1 z2 d g w = rw (← e, ne_eqb _ _ z1, ne_eqb _ _ z2, ← d, g, w)

  -- ---- a value handed back

  module _ (v : ℕ) (l : Resumption) (e : l ≡ resumption_of Bits32 (row_at t) c st (suc r.frame) r.frame) where
    pub back-ends : (top : ℕ) (o : Outcome) → l ≡ Ends top → o ≡ one_step (ended Bits32 v top) → left o st m ≡ after (handing v) t c r st m
    unfolding handed_by effected
    back-ends top o h q = rw (← e, h, q)

    pub back-caller : (i s used top : ℕ) (q : Machine) (o : Outcome) (st' m' : List ℕ) → l ≡ Caller i s used top → q ≡ moved_to r (i + 1) s used top
        → left o st' m' ≡ after (handing_to v i s q) t c r st m → left o st' m' ≡ after (handing v) t c r st m
    unfolding handed_by
    back-caller i s used top q o st' m' h g w =
        w ∙ ap (λ (z : Machine). effected (world r st m) (handed_to (rows_alone t c) (world r st m) v (row_at t i) s z)) (g ∙ ap (λ (z : ℕ). moved_to r z s used top) (one_more_lem i))
        ∙ ap (λ (z : Resumption). effected (world r st m) (handed_by (rows_alone t c) (world r st m) v z)) (sym h ∙ e)

pub ruleset frames = (push-full, push-fits, replace-full, replace-fits)

pub ruleset calls = (call-good, call-bad, tail-good, tail-bad)

pub ruleset addressed = (at-good, at-bad)

pub ruleset handed = (to-memory, to-nowhere, to-bare, to-local)

pub ruleset back = (back-ends, back-caller)
