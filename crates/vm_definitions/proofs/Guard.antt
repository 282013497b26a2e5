-- A world with the invariant is not refused, and the return of a value does not stop.
-- Assumes nothing.
use mathlib.Core.Path.{◌≡◌, refl, sym, ◌∙◌, ap, subst}
use mathlib.Core.Bool.{Bool, true, false, not}
use mathlib.Core.List.{List, [], ◌∷◌, ◌++◌}
use Prim.Native.Nat.{ℕ, zero, suc, ◌+◌, ◌<◌, ◌≤◌}
use native.Mathlib.Omega.{arith}
use borrow.Author.Tests.{eq-eqb, ne_eqb, eqb-true, ltb-true, le-leb, le-ltb, lt-leb}
use lib.Dec.{eqb, ltb, leb}
use lib.ListN.{get_or, length}
use Rattle.base_prelude.specs.Choice.{if_true}
use Rattle.base_prelude.proofs.Choice.{either, either-eq, either_true, if_lt-yes, if_true-yes, if_true-no}
use Rattle.base_limits.specs.declared.Width.{Width}
use Rattle.base_limits.specs.declared.Machine.{Machine}
use Rattle.prog_tables.specs.Tests.{both, one_of, some}
use Rattle.prog_tables.specs.Statement.{Row, is_call}
use Rattle.prog_tables.specs.Label.{Tables, rows}
use Rattle.prog_tables.specs.Program.{Program, program_from}
use Rattle.prog_tables.specs.Frames.{frame_depth}
use Rattle.prog_tables.specs.Faults.{in_function, size_at, row_fault}
use Rattle.prog_tables.specs.WellFormed.{counts_good, WellFormed}
use Rattle.prog_tables.proofs.Each.{both_left, both_right, both_true, all-at, counts-good}
use Rattle.prog_tables.proofs.Sound.{both_false, function-sound}
use Rattle.prog_tables.proofs.Whole.{row-sound}
use Rattle.prog_tables.proofs.Unbroken.{counts, not-true}
use Rattle.prog_tables.proofs.Sound as sound
use Rattle.prog_laws.proofs.Words.{end-facts, around-self}
use Rattle.vm_definitions.specs.Frames.{returns_to, caller_frame, is_first, is_return_call, importing, leaves_frame, called_from, leaves_good, heads_left, tops_left, rows_left, resumption_of}
use Rattle.vm_definitions.specs.Ledger.{Entry, Ledger, popped, sum_of}
use Rattle.vm_definitions.specs.Broken.{lower, lowest, or_else, next_bad, frame_ends, rows_used, next_past, frame_fault, top_fault, limit_fault, head_fault, record_fault, step_broken, not_import, resume_broken}
use Rattle.vm_definitions.specs.Step.{World, Effect, stops, effect_stop, handed_to, handed_by}
use Rattle.vm_definitions.specs.declared.Broken.{Broken}
use Rattle.vm_definitions.specs.declared.Broken.TheVariants.{No, Somewhere}
use Rattle.vm_definitions.specs.declared.Resumption.{Resumption}
use Rattle.vm_definitions.proofs.Invariant.{Invariant}
use Rattle.vm_definitions.proofs.Seen.{leaves-parts}
use Rattle.vm_definitions.proofs.Chain.{under-sum, popped-sum, frame-size, head-good, leaves-good, CallerAt, Resumed, ends, to-caller, resumed}

-- ---- tests

pub neither : (p q : Bool) → p ≡ false → q ≡ false → one_of p q ≡ false
neither true q e d = e
neither false q e d = d

none-cons : (b : Bool) (bs : List Bool) → b ≡ false → some bs ≡ false → some (b ∷ bs) ≡ false
unfolding some
none-cons b bs e d = neither b (some bs) e d

none-none : some [] ≡ false
unfolding some
none-none = refl

-- ---- rows that a step uses

-- all numbers of a list are below c
unfoldable pub Low : ℕ → List ℕ → Type 0
Low c [] = Unit {0}
Low c (i ∷ is) = (i < c) × Low c is

pub low-none : (c : ℕ) → Low c []
unfolding Low
low-none c = tt

pub low-cons : (c i : ℕ) (is : List ℕ) → i < c → Low c is → Low c (i ∷ is)
unfolding Low
low-cons c i is h a = (h, a)

low-both : (c : ℕ) (is js : List ℕ) → Low c is → Low c js → Low c (is ++ js)
unfolding Low
low-both c [] js a b = b
low-both c (i ∷ is) js a b = (a.0, low-both c is js a.1 b)

-- no bad row is found
pub lowest-none : (p : ℕ → Bool) (c : ℕ) → ((i : ℕ) → i < c → p i ≡ false) → (is : List ℕ) → Low c is → lowest p is ≡ No
unfolding Low lowest
lowest-none p c k [] a = refl
lowest-none p c k (i ∷ is) a = if_true-no (lower i (lowest p is)) (lowest p is) (k i a.0) ∙ lowest-none p c k is a.1

module _ (prog : Program) where
  abbrev w : Width
  w = prog.width

  abbrev f : ℕ → Row
  f = prog.rows

  abbrev c : ℕ
  c = prog.count

  in-low : (n : ℕ) → in_function f c n ≡ true → (f n).func < c
  unfolding in_function
  in-low n e = ltb-true _ _ (both_left (ltb (f n).func c) (eqb (f (f n).func).kind 1) e)

  left-low : (st : List ℕ) (fuel s : ℕ) → Low c (rows_left w f c st fuel s)
  unfolding Low rows_left called_from
  left-low st zero s = tt
  left-low st (suc fuel) s =
      either_true (Low c) (is_first w st s) [] _ (λ e. tt)
      (λ e. either_true (Low c) (called_from f c st s) _ [] (λ d. here (left-low st fuel (caller_frame st s)) d) (λ d. tt))
    where
      here : Low c (rows_left w f c st fuel (caller_frame st s)) → called_from f c st s ≡ true → Low c (returns_to st s ∷ (f (returns_to st s)).func ∷ if_true (is_return_call (f (returns_to st s))) (rows_left w f c st fuel (caller_frame st s)) [])
      here on d = (
        ltb-true _ _ (both_left (ltb (returns_to st s) c) _ d),
        (
          in-low (returns_to st s) (both_left (in_function f c (returns_to st s)) _ (both_right (ltb (returns_to st s) c) _ d)),
          either_true (Low c) (is_return_call (f (returns_to st s))) (rows_left w f c st fuel (caller_frame st s)) [] (λ e. on) (λ e. tt),
        ),
      )

  pub used_low : (r : Machine) (st : List ℕ) → Low c (rows_used prog r st)
  unfolding rows_used
  used_low r st =
      either (Low c) r.next c _ []
      (λ h. low-cons c r.next _ h
      (low-both c _ _
      (either_true (Low c) (in_function f c r.next) ((f r.next).func ∷ []) [] (λ e. low-cons c _ [] (in-low r.next e) (low-none c)) (λ e. low-none c))
      (low-both c _ _
      (either_true (Low c) (both (is_call (f r.next).kind (f r.next).expr) (ltb (f r.next).callee c)) ((f r.next).callee ∷ []) []
      (λ e. low-cons c _ [] (ltb-true _ _ (both_right (is_call (f r.next).kind (f r.next).expr) (ltb (f r.next).callee c) e)) (low-none c)) (λ e. low-none c))
      (either_true (Low c) (both (leaves_frame (f r.next)) (frame_ends f c r (length st))) (rows_left w f c st (suc r.frame) r.frame) []
      (λ e. left-low st (suc r.frame) r.frame) (λ e. low-none c)))))
      (λ h. low-none c)

-- going on at a call to an imported function is judged as a step
pub resume-judged : (p : Program) (r : Machine) (st : List ℕ) (m : ℕ) → r.next < p.count → importing (p.rows r.next) ≡ true
    → resume_broken p r st m ≡ step_broken p r st m
unfolding resume_broken not_import step_broken
resume-judged p r st m h im = rw (if_lt-yes _ _ h, if_true-yes _ _ im)

module _ (w : Width) (t : Tables) (ok : WellFormed (program_from w t)) where
  pub statements-sound : (program_from w t).statements_past ≡ false
  unfolding counts_good
  statements-sound = not-true _ (all-at (counts (program_from w t)) 3 (counts-good w t ok) (omega arith))

  pub labels-sound : (program_from w t).labels_past ≡ false
  unfolding counts_good
  labels-sound = not-true _ (all-at (counts (program_from w t)) 4 (counts-good w t ok) (omega arith))

  next-sound : (n : ℕ) → n < t.count → ((rows t n).kind ≡ 1 → ⊥) → next_bad (rows t) t.count n ≡ false
  unfolding next_bad
  next-sound n h q = neither (eqb (rows t n).kind 1) (not (in_function (rows t) t.count n)) (ne_eqb _ _ q) (ap not (function-sound w t ok n h))

-- ---- the guard

module _ (w : Width) (t : Tables) (ok : WellFormed (program_from w t)) (e : Entry) (es : Ledger) (x : World) (i : Invariant w t e es x) where
  frame-ends : frame_ends (rows t) t.count x.machine (length x.stack) ≡ true
  unfolding frame_ends
  frame-ends =
      both_true (eqb (x.machine.frame + size_at (rows t) t.count x.machine.next) x.machine.used) (leb x.machine.used (length x.stack))
      (eq-eqb _ _ (ap (λ (n : ℕ). x.machine.frame + n) (frame-size w t ok (length x.memory) x.stack e.func x.machine.frame x.machine.next i.frame) ∙ i.ends))
      (le-leb _ _ i.lent)

  -- the auto top that an `end block` restores
  saved-top : (rows t x.machine.next).kind ≡ 4 → get_or x.stack (x.machine.frame + (rows t x.machine.next).a) 0 ≤ length x.memory
  saved-top k =
      let d = end-facts w t ok x.machine.next i.frame.within k in
      subst (λ (a : ℕ). get_or x.stack (x.machine.frame + a) 0 ≤ length x.memory) (sym d.word)
      (i.frame.blocks (rows t x.machine.next).scope (omega (arith, d.before, i.frame.within)) d.is_block
      (around-self (rows t) t.count (sound.ok w t ok) frame_depth (rows t x.machine.next).scope))

  leaves : leaves_frame (rows t x.machine.next) ≡ true → leaves_good w (rows t) t.count (length x.memory) x.stack (suc x.machine.frame) x.machine.frame ≡ true
  leaves k = leaves-good w t ok (length x.memory) x.stack e.call es (suc x.machine.frame) x.machine.frame i.under i.frame.top (omega arith)

  parts : leaves_frame (rows t x.machine.next) ≡ true
      → both (heads_left w (rows t) t.count x.stack (suc x.machine.frame) x.machine.frame)
      (tops_left w (rows t) t.count (length x.memory) x.stack (suc x.machine.frame) x.machine.frame) ≡ true
  parts k = sym (leaves-parts w (rows t) t.count (length x.memory) x.stack (suc x.machine.frame) x.machine.frame) ∙ leaves k

  tops-whole : top_fault (program_from w t) (length x.memory) x.machine x.stack ≡ false
  unfolding top_fault
  tops-whole =
      none-cons _ _ (le-ltb _ _ i.top)
      (none-cons _ _ (both_false (eqb (rows t x.machine.next).kind 4) _ (λ k. le-ltb _ _ (saved-top (eqb-true _ _ k))))
      (none-cons _ _ (both_false (eqb (rows t x.machine.next).kind 12) _ (λ k. le-ltb _ _ i.frame.top))
      (none-cons _ _ (both_false (leaves_frame (rows t x.machine.next)) _ (λ k. ap not (both_right (heads_left w (rows t) t.count x.stack (suc x.machine.frame) x.machine.frame) _ (parts k))))
      none-none)))

  heads-whole : head_fault (program_from w t) (length x.memory) x.machine x.stack ≡ false
  unfolding head_fault
  heads-whole =
      neither _ _ (ap not (head-good w t ok (length x.memory) x.stack e.call es x.machine.frame i.under))
      (both_false (leaves_frame (rows t x.machine.next)) _ (λ k. ap not (both_left (heads_left w (rows t) t.count x.stack (suc x.machine.frame) x.machine.frame) _ (parts k))))

  pub record-whole : record_fault (program_from w t) (length x.memory) x.machine x.stack ≡ false
  unfolding record_fault next_past frame_fault limit_fault
  record-whole =
      none-cons _ _ (lt-leb _ _ i.frame.within)
      (none-cons _ _ (ap not frame-ends)
      (none-cons _ _ tops-whole
      (none-cons _ _ (neither _ _ (le-ltb _ _ i.short) (le-ltb _ _ i.few))
      (none-cons _ _ heads-whole none-none))))

  row-good : (n : ℕ) → n < t.count
      → one_of (row_fault (program_from w t) n) (both (eqb n x.machine.next) (next_bad (rows t) t.count n)) ≡ false
  row-good n h =
      neither (row_fault (program_from w t) n) (both (eqb n x.machine.next) (next_bad (rows t) t.count n)) (row-sound w t ok n h)
      (both_false (eqb n x.machine.next) (next_bad (rows t) t.count n)
      (λ q. next-sound w t ok n h (λ (k : (rows t n).kind ≡ 1). i.frame.inside (ap (λ (p : ℕ). (rows t p).kind) (sym (eqb-true _ _ q)) ∙ k))))

  pub gate-open : step_broken (program_from w t) x.machine x.stack (length x.memory) ≡ No
  unfolding step_broken or_else
  gate-open =
      if_true-no Somewhere _ (statements-sound w t ok)
      ∙ ap (λ (b : Broken). or_else b (if_true (one_of (program_from w t).labels_past (record_fault (program_from w t) (length x.memory) x.machine x.stack)) Somewhere No))
      (lowest-none (λ (n : ℕ). one_of (row_fault (program_from w t) n) (both (eqb n x.machine.next) (next_bad (rows t) t.count n))) t.count row-good
      (rows_used (program_from w t) x.machine x.stack) (used_low (program_from w t) x.machine x.stack))
      ∙ if_true-no Somewhere No (neither _ _ (labels-sound w t ok) record-whole)

  pub resume-open : importing (rows t x.machine.next) ≡ true → resume_broken (program_from w t) x.machine x.stack (length x.memory) ≡ No
  resume-open im = resume-judged (program_from w t) x.machine x.stack (length x.memory) i.frame.within im ∙ gate-open

  -- ---- returns

  -- where a return from here comes out
  pub invariant-resumed : Resumed w t (length x.memory) x.stack (popped (rows t) (e ∷ es))
      (resumption_of w (rows t) t.count x.stack (suc x.machine.frame) x.machine.frame)
  invariant-resumed = resumed w t ok (length x.memory) x.stack e es (suc x.machine.frame) x.machine.frame i.under i.frame.top (omega arith)

  handed-safe : (v : ℕ) (p : Ledger) (l : Resumption) → Resumed w t (length x.memory) x.stack p l → effect_stop (handed_by (program_from w t) x v l) ≡ 0
  unfolding handed_by handed_to effect_stop
  handed-safe v p l (ends top d h q) = subst (λ (k : Resumption). effect_stop (handed_by (program_from w t) x v k) ≡ 0) (sym d) refl
  handed-safe v p l (to-caller d ds c s u top y q z) =
      subst (λ (k : Resumption). effect_stop (handed_by (program_from w t) x v k) ≡ 0) (sym q)
      (either-eq (λ (k : Effect). effect_stop k ≡ 0) (rows t c).kind 7 _ _
      (λ k. ap effect_stop (if_true-yes _ (stops 32) (y.address k)))
      (λ k. either-eq (λ (a : Effect). effect_stop a ≡ 0) (rows t c).kind 11 _ _ (λ a. refl) (λ a. refl)))

  pub hand-safe : (v : ℕ)
      → effect_stop (handed_by (program_from w t) x v (resumption_of w (rows t) t.count x.stack (suc x.machine.frame) x.machine.frame)) ≡ 0
  hand-safe v = handed-safe v _ _ invariant-resumed

  -- the frame it comes out in ends where this one starts, or before
  pub resumed-low : (d : Entry) (ds : Ledger) (c v u top : ℕ) → CallerAt w t (length x.memory) x.stack d ds c v u top → popped (rows t) (e ∷ es) ≡ d ∷ ds
      → u ≤ x.machine.frame
  unfolding sum_of
  resumed-low d ds c v u top y q =
      omega (
        arith,
        y.ends,
        under-sum w t (length x.memory) x.stack d.call ds v y.under,
        under-sum w t (length x.memory) x.stack e.call es x.machine.frame i.under,
        popped-sum (rows t) e es,
        ap (sum_of (rows t)) q,
      )
