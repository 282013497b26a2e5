-- The ways through the functions of pauses.
-- Assumes nothing.
use Rattle.std.proofs.Common.{Option, Some, None}
use mathlib.Core.Path.{◌≡◌, refl, sym, ◌∙◌, ap}
use mathlib.Core.Bool.{Bool, true, false}
use mathlib.Core.List.{List, [], ◌∷◌}
use Prim.Native.Nat.{ℕ, suc, ◌+◌, ◌*◌, ◌<◌, ◌≤◌, min}
use native.Mathlib.Omega.{arith}
use lib.ListN.{length, get_or, take, get_or-eq_default}
use lib.Seq.{get_or-take, length-take-le}
use lib.Dec.{eqb}
use borrow.Author.Tests.{eq-eqb, ne_eqb}
use Rattle.base_prelude.specs.Choice.{pick, if_eq, if_lt, if_true}
use Rattle.base_prelude.proofs.Choice.{true-false, either-eq}
use Rattle.base_limits.specs.declared.Width.TheVariants.{Bits32}
use Rattle.base_limits.specs.declared.Machine.{Machine}
use Rattle.base_limits.specs.declared.Pause.{Pause}
use Rattle.base_limits.specs.Record.{going_on, with_state, pause_of}
use Rattle.prog_tables.specs.Tests.{one_of}
use Rattle.prog_tables.specs.Statement.{Row, has_expression, is_call_row, is_import, expression_uses, used_by, slots, row_at}
use Rattle.prog_tables.specs.Label.{label_at}
use Rattle.prog_tables.specs.Program.{Program, lent_program, rows_alone}
use Rattle.prog_tables.specs.declared.Operand.{Operand}
use Rattle.prog_tables.proofs.Ranges.{one_more_lem}
use Rattle.vm_definitions.specs.Access.{as_word, word_good}
use Rattle.vm_definitions.specs.Operands.{Words, words, bad, number_in, read_all}
use Rattle.vm_definitions.specs.Frames.{importing, returns_import, leaves_good, resumption_of}
use Rattle.vm_definitions.specs.Step.{Effect, effected, idle, in_state_of, arguments_of, handed_to, handed_by, paused_by, pausing, handed_in}
use Rattle.vm_definitions.specs.Lent.{world, left}
use Rattle.vm_definitions.specs.declared.Outcome.{Outcome}
use Rattle.vm_definitions.proofs.Words.{word-32}
use Rattle.vm_calls.specs.Outcomes.{halted, after, handing, handing_to, words_given}
use Rattle.vm_calls.proofs.Reading.{arguments-are}
use Rattle.vm_pauses.specs.Pauses.{held, handing_in, Awaits}

-- ---- words of a pause

pub word_in : (ws : List ℕ) (k i : ℕ) → i < k → get_or ws i 0 ≡ get_or (take k ws) i 0
word_in ws k i h = sym (get_or-take k ws i 0 h)

pub word-beyond : (ws : List ℕ) (k i : ℕ) → length ws ≡ 8 → k ≤ 8 → k ≤ i → 0 ≡ get_or (take k ws) i 0
word-beyond ws k i l h g = sym (get_or-eq_default (take k ws) 0 (let e : length (take k ws) ≡ k = length-take-le k ws (omega arith) in omega arith))

pub ruleset words_of = (word_in, word-beyond)

pub paused-words : (n k : ℕ) (ws : List ℕ) (a b d e f g h i : ℕ) → length ws ≡ 8 → k ≤ 8 → a ≡ get_or (take k ws) 0 0 → b ≡ get_or (take k ws) 1 0 → d ≡ get_or (take k ws) 2 0
    → e ≡ get_or (take k ws) 3 0 → f ≡ get_or (take k ws) 4 0 → g ≡ get_or (take k ws) 5 0 → h ≡ get_or (take k ws) 6 0 → i ≡ get_or (take k ws) 7 0
    → record { number = n; count = k; first = a; second = b; third = d; fourth = e; fifth = f; sixth = g; seventh = h; eighth = i } ≡ pause_of n (take k ws)
unfolding pause_of
paused-words n k ws a b d e f g h i l m pa pb pd pe pf pg ph pi = rw (length-take-le k ws (omega arith), ← pa, ← pb, ← pd, ← pe, ← pf, ← pg, ← ph, ← pi)

-- ---- a call to an imported function: its operands are its arguments

import-three : (k e : ℕ) → is_import k e ≡ true → e ≡ 3
unfolding is_import
import-three k e = either-eq (λ (b : Bool). b ≡ true → e ≡ 3) e 3 _ false (λ q h. q) (λ q h. true-false (sym h))

used-three : (k n : ℕ) → is_import k 3 ≡ true → used_by k 3 n ≡ n
unfolding is_import used_by expression_uses if_eq if_true
used-three k n = by (is_call_row k) (has_expression k) _
  where
    by : (b c : Bool) (x : ℕ) → pick b true c ≡ true → pick c n (pick b n x) ≡ n
    by true true x h = refl
    by true false x h = refl
    by false true x h = refl
    by false false x h = true-false (sym h)

import-used : (k e n : ℕ) → is_import k e ≡ true → used_by k e n ≡ n
import-used k e n h = let q = import-three k e h in ap (λ (i : ℕ). used_by k i n) q ∙ used-three k n (ap (is_import k) (sym q) ∙ h)

module _ (t : List ℕ) (c : ℕ) (l : List ℕ) (lc d : ℕ) (r : Machine) (st m : List ℕ) where
  abbrev prog : Program
  prog = lent_program t c l lc d

  abbrev row : Row
  row = row_at t r.next

  same-arguments : arguments_of (rows_alone t c) (world r st m) ≡ arguments_of prog (world r st m)
  unfolding arguments_of
  same-arguments = refl

  module _ (h : importing row ≡ true) (x : Option (List ℕ)) (k : ℕ) (e : k ≡ min row.count 8)
      (u : words_given x k ≡ read_all Bits32 st r.frame m (take k (slots t (r.next * 27)))) where
    read : words_given x k ≡ arguments_of prog (world r st m)
    read = arguments-are t c r st m x k (import-used row.kind row.expr row.count h) e u ∙ same-arguments

    pub asks-good : (ws : List ℕ) (g n : ℕ) (q : Pause) (o : Outcome) → x ≡ Some ws → g ≡ row.callee → n ≡ (label_at l [] g).number → q ≡ pause_of n (take k ws) → o ≡ held r q
        → left o st m ≡ paused_by prog (world r st m) (arguments_of prog (world r st m))
    unfolding paused_by idle in_state_of label_at if_true
    asks-good ws g n q o z pg pn pq po = rw (← read, z, ← pg, ← pn, ← pq, po)

    pub asks-bad : (o : Outcome) → x ≡ None → o ≡ halted r 32 → left o st m ≡ paused_by prog (world r st m) (arguments_of prog (world r st m))
    unfolding paused_by effected if_true
    asks-bad o z po = rw (← read, z, po)

  -- ---- the address of `set @`

  module _ (k : ℕ) (e : k ≡ row.kind) where
    pub pause-other : (o : Outcome) → (k ≡ 7 → ⊥) → left o st m ≡ paused_by prog (world r st m) (arguments_of prog (world r st m)) → left o st m ≡ pausing prog (world r st m)
    unfolding pausing if_eq
    pause-other o h q = rw (← e, ne_eqb _ _ h) q

    module _ (y : Operand) (a : ℕ) (b : Bool) (h : k ≡ 7) (p : y ≡ row.address) (j : a ≡ number_in Bits32 st r.frame y) (i : b ≡ word_good Bits32 (length m) a) where
      pub pause-good : (o : Outcome) → b ≡ true → left o st m ≡ paused_by prog (world r st m) (arguments_of prog (world r st m)) → left o st m ≡ pausing prog (world r st m)
      unfolding pausing if_eq if_true
      pause-good o z q = rw (← e, eq-eqb _ _ h, ← p, ← j, ← i, z) q

      pub pause-bad : (o : Outcome) → b ≡ false → o ≡ halted r 32 → left o st m ≡ pausing prog (world r st m)
      unfolding pausing effected if_eq if_true
      pause-bad o z q = rw (← e, eq-eqb _ _ h, ← p, ← j, ← i, z, q)

pub ruleset asks = (asks-good, asks-bad)

pub ruleset pauses = (pause-other, pause-good, pause-bad)

-- ---- going on

module _ (t : List ℕ) (c : ℕ) (r : Machine) (st m : List ℕ) (v : ℕ) (b : Bool) (e : b ≡ returns_import (row_at t r.next)) where
  pub awaits-leaves : Awaits (row_at t) c r st (length m) → b ≡ true → leaves_good Bits32 (row_at t) c (length m) st (suc r.frame) r.frame ≡ true
  awaits-leaves h z = h.leaves (sym e ∙ z)

  module _ (o : Outcome) (st' m' : List ℕ) (i : v < 4294967296) where
    pub in-returned : b ≡ true → left o st' m' ≡ after (handing v) t c r st m → left o st' m' ≡ after (handing_in v) t c r st m
    unfolding handed_in if_true
    in-returned z q = rw (← e, z, word-32 v i) q

    pub in_place : (q : Machine) → b ≡ false → q ≡ going_on r (r.next + 1) r.top → left o st' m' ≡ after (handing_to v r.next r.frame q) t c r st m
        → left o st' m' ≡ after (handing_in v) t c r st m
    unfolding handed_in if_true
    in_place q z p w =
        w ∙ ap (λ (x : Machine). effected (world r st m) (handed_to (rows_alone t c) (world r st m) v (row_at t r.next) r.frame x)) (p ∙ ap (λ (n : ℕ). going_on r n r.top) (one_more_lem r.next))
        ∙ placed
      where
        placed : effected (world r st m) (handed_to (rows_alone t c) (world r st m) v (row_at t r.next) r.frame (going_on r (suc r.next) r.top)) ≡ after (handing_in v) t c r st m
        placed = rw (← e, z, word-32 v i)

pub ruleset in-ways = (in-returned, in_place)
