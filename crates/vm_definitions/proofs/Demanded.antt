-- Demand 3 for well-formed tables: "Take any source you accepted and any list of starts, steps and runs on its tables and data, the
-- first an accepted start; refused starts and calls on a finished or stopped record belong too. [..] After every such list the machine
-- has finished, exactly when no function is open in the ledger of 01, or has stopped for one of the five listed causes, or its next
-- step counts one or stops so. A statement stops exactly when such a cause is there, with the number of the first it meets. It never
-- meets a jump, name, call or frame it cannot make sense of, and no call of the list gives 35. The stack in use is the sum of the
-- frame sizes of the functions open in the ledger. The stack stop comes exactly when a call's or tail call's arguments are read and
-- that sum with the new frame, for a tail call less the old one, passes the words lent." "Demand 3 gains 'paused', as a state whose
-- going on counts one and as what a next step may come to, exactly at such a call with its arguments read, for any words handed in,
-- and in its list the going on, refused ones too" (02, 3).
-- Worlds inside a run are those of a run with a smaller budget, which is another list.
-- Assumes nothing.
use Rattle.std.proofs.Common.{Ok, Err}
use mathlib.Core.Path.{◌≡◌, refl, sym, ◌∙◌, ap, subst}
use mathlib.Core.Bool.{Bool, true, false}
use mathlib.Core.Option.{none}
use mathlib.Core.List.{List, [], ◌∷◌}
use Prim.Native.Nat.{ℕ, zero, suc, ◌≤◌, ◌<◌}
use native.Mathlib.Omega.{arith}
use borrow.Author.Tests.{le-ltb}
use lib.Dec.{ltb}
use lib.ListN.{length}
use Rattle.base_prelude.specs.Choice.{if_true}
use Rattle.base_prelude.proofs.Choice.{true-false, if_true-no, either, either-eq, either_true}
use Rattle.base_limits.specs.declared.Width.{Width}
use Rattle.base_limits.specs.declared.State.TheVariants.{Running}
use Rattle.base_limits.specs.Record.{fresh_of}
use Rattle.prog_tables.specs.Tests.{one_of, some, some_below}
use Rattle.prog_tables.specs.Label.{Tables, rows, labels_of}
use Rattle.prog_tables.specs.Program.{program_from}
use Rattle.prog_tables.specs.Faults.{row_fault, label_fault, count_fault, tables_fault}
use Rattle.prog_tables.specs.WellFormed.{WellFormed}
use Rattle.prog_tables.proofs.Sound.{kind-sound}
use Rattle.prog_tables.proofs.Whole.{row-sound}
use Rattle.prog_tables.proofs.Unbroken.{tables-sound}
use Rattle.vm_definitions.specs.Step.{World, stops, leaves, effect_stop, effect_of, address_of, pausing, handed_in}
use Rattle.vm_definitions.specs.Access.{word_good}
use Rattle.vm_definitions.specs.Frames.{importing}
use Rattle.vm_definitions.specs.Causes.{arguments_read}
use Rattle.vm_definitions.specs.Broken.{or_else, numbers_below, start_broken}
use Rattle.vm_definitions.specs.Start.{start_of, start_by, start_answer, start_leaves, start_world, begun_by, started_function}
use Rattle.vm_definitions.specs.Ledger.{Entry, Ledger, sum_of, last_of, counted_in}
use Rattle.vm_definitions.specs.Claim.{cause_in, pause_in, paused_as, stopped_by, Demand}
use Rattle.vm_definitions.specs.declared.Broken.{Broken}
use Rattle.vm_definitions.specs.declared.Broken.TheVariants.{No, At, Somewhere}
use Rattle.vm_definitions.specs.Start.{Started}
use Rattle.vm_definitions.specs.declared.StartError.TheVariants.{Refused, Unsound}
use Rattle.vm_definitions.proofs.Invariant.{Invariant}
use Rattle.vm_definitions.proofs.Chain.{invariant-sum, invariant-frame}
use Rattle.vm_definitions.proofs.Guard.{Low, low-none, low-cons, lowest-none, statements-sound, labels-sound, gate-open, resume-open, hand-safe, neither}
use Rattle.vm_definitions.proofs.Stores.{store_length}
use Rattle.vm_definitions.proofs.Causes.{effect-cause}
use Rattle.vm_definitions.proofs.Listed.{step-listed, step-full, step-full-only}
use Rattle.vm_definitions.proofs.Paused.{cause-read, read-cause, pause-clear, pause-stop}
use Rattle.vm_definitions.proofs.HandedIn.{handed-in-safe}
use Rattle.vm_definitions.proofs.Begun as start
use Rattle.vm_definitions.proofs.Lists.{Good, GoodNow, runs, Parts}
use Rattle.vm_definitions.proofs.Stepped.{Leads, leads, leads-handed}
use Rattle.vm_definitions.proofs.Claimed.{demand-holds}

neither_left : (p q : Bool) → one_of p q ≡ false → p ≡ false
neither_left true q e = e
neither_left false q e = refl

neither_right : (p q : Bool) → one_of p q ≡ false → q ≡ false
neither_right true q e = absurd (true-false e)
neither_right false q e = e

low_below : (c n : ℕ) → n ≤ c → Low c (numbers_below n)
unfolding numbers_below
low_below c zero h = low-none c
low_below c (suc n) h = low-cons c n (numbers_below n) h (low_below c n (omega (arith, h)))

module _ (w : Width) (t : Tables) (good : WellFormed (program_from w t)) (bytes : List ℕ) (lent : t.data_length ≤ length bytes) where
  abbrev label_bad : ℕ → Bool
  label_bad n = label_fault (program_from w t) (labels_of t n)

  abbrev row_bad : ℕ → Bool
  row_bad = row_fault (program_from w t)

  labels-whole : some_below label_bad t.label_count ≡ false
  unfolding tables_fault some
  labels-whole =
      neither_left (some_below label_bad t.label_count) false
      (neither_right (some_below row_bad t.count) (one_of (some_below label_bad t.label_count) false)
      (neither_right (count_fault (program_from w t)) (one_of (some_below row_bad t.count) (one_of (some_below label_bad t.label_count) false)) (tables-sound w t good)))

  -- no start gives 35
  start-whole : start_broken (program_from w t) (length bytes) ≡ No
  unfolding start_broken or_else some
  start-whole =
      if_true-no _ _ (statements-sound w t good)
      ∙ ap (λ (b : Broken). or_else b (if_true (one_of (program_from w t).labels_past (one_of (ltb (length bytes) t.data_length) (one_of (some_below label_bad t.label_count) false))) Somewhere No))
      (lowest-none row_bad t.count (row-sound w t good) (numbers_below t.count) (low_below t.count t.count (omega arith)))
      ∙ if_true-no _ _
      (neither _ _ (labels-sound w t good) (neither _ _ (le-ltb (length bytes) t.data_length lent) (neither _ _ labels-whole refl)))

  module _ (name args : List ℕ) (x : World) where
    unfoldable Whole : Started → Type 0
    Whole (Ok _) = Unit {0}
    Whole (Err (Refused k)) = Unit {0}
    Whole (Err (Unsound b)) = ⊥

    refusals : (n : ℕ) → Whole (Err (Refused n))
    unfolding Whole
    refusals n = tt

    answer-whole : Whole (start_answer (program_from w t) bytes name args x)
    unfolding start_answer Whole
    answer-whole =
        either Whole _ _ _ _
        (λ a. either-eq Whole _ _ _ _
        (λ b. either_true Whole _ _ _ (λ c. refusals 22) (λ c. either_true Whole _ _ _ (λ d. refusals 23) (λ d. tt)))
        (λ b. refusals 21))
        (λ a. refusals 20)

    started-whole : Whole (start_of (program_from w t) bytes name args x)
    unfolding start_of start_by
    started-whole = subst (λ (b : Broken). Whole (start_by (program_from w t) bytes name args x b)) (sym start-whole) answer-whole

    unsound : (b : Broken) → start_of (program_from w t) bytes name args x ≡ Err (Unsound b) → ⊥
    unfolding Whole
    unsound b q = subst Whole q started-whole

    -- an accepted start leaves a good world
    begins : start_of (program_from w t) bytes name args x ≡ Ok tt
        → (s : List ℕ) → Good w t (length x.memory) s (record { func = started_function (program_from w t) bytes name args x; call = none } ∷ []) (start_leaves (program_from w t) bytes name args x)
    unfolding start_leaves begun_by start_world fresh_of
    begins q s =
        runs _ [] (start_leaves (program_from w t) bytes name args x)
        (ap (λ (a : Started). length (begun_by (program_from w t) bytes name args x a).memory) q ∙ store_length x.memory 0 _)
        (ap (λ (a : Started). (begun_by (program_from w t) bytes name args x a).machine.state) q)
        (start.begun w t good bytes name args x q)

  module _ (e : Entry) (es : Ledger) (x : World) (i : Invariant w t e es x) where
    -- a statement that calls no imported function
    module _ (own : importing (rows t x.machine.next) ≡ false) where
      cause-is : effect_stop (effect_of (program_from w t) x) ≡ cause_in (program_from w t) (e ∷ es) x
      unfolding cause_in
      cause-is =
          effect-cause w t x (sum_of (rows t) (e ∷ es)) (last_of (rows t) (e ∷ es)) own (kind-sound w t good x.machine.next i.frame.within) i.frame.inside
          (invariant-sum w t e es x i) (invariant-frame w t e es x i) (λ v r. hand-safe w t good e es x i v)

      leads-on : (s : x.machine.state ≡ Running) (y : World) → effect_of (program_from w t) x ≡ leaves y
          → GoodNow w t (length x.memory) (counted_in (rows t) x.machine.next (e ∷ es)) y
      unfolding Leads
      leads-on s y q = subst (Leads w t good e es x s i) q (leads w t good e es x s i own)

      stop-some : (s : x.machine.state ≡ Running) (k : ℕ) → effect_of (program_from w t) x ≡ stops k → 0 < k
      unfolding Leads
      stop-some s k q = subst (Leads w t good e es x s i) q (leads w t good e es x s i own)

    -- going on with a word
    module _ (s : x.machine.state ≡ Running) (im : importing (rows t x.machine.next) ≡ true)
        (a : (rows t x.machine.next).kind ≡ 7 → word_good w (length x.memory) (address_of (program_from w t) x) ≡ true) (v : ℕ) where
      handed-on : (y : World) → handed_in (program_from w t) v x ≡ leaves y
          → GoodNow w t (length x.memory) (counted_in (rows t) x.machine.next (e ∷ es)) y
      unfolding Leads
      handed-on y q = subst (Leads w t good e es x s i) q (leads-handed w t good e es x s i im a v)

      handed-some : (k : ℕ) → handed_in (program_from w t) v x ≡ stops k → ⊥
      unfolding Leads effect_stop
      handed-some k q =
          let b : 0 < k = subst (Leads w t good e es x s i) q (leads-handed w t good e es x s i im a v) in
          let c : k ≡ 0 = sym (ap effect_stop q) ∙ handed-in-safe w t good e es x i im a v in omega (arith, b, c)

  -- a call to an imported function
  module _ (es : Ledger) (x : World) (im : importing (rows t x.machine.next) ≡ true) where
    clear : cause_in (program_from w t) es x ≡ 0 → pausing (program_from w t) x ≡ paused_as x (pause_in (program_from w t) x)
    unfolding cause_in
    clear z = pause-clear (program_from w t) x (sum_of (rows t) es) (last_of (rows t) es) im z

    stopping : 0 < cause_in (program_from w t) es x → pausing (program_from w t) x ≡ stopped_by x (cause_in (program_from w t) es x)
    unfolding cause_in
    stopping h = pause-stop (program_from w t) x (sum_of (rows t) es) (last_of (rows t) es) im h

    reading : cause_in (program_from w t) es x ≡ 0 → arguments_read (program_from w t) x ≡ true
    unfolding cause_in
    reading z = cause-read (program_from w t) x (sum_of (rows t) es) (last_of (rows t) es) im z

    no-cause : arguments_read (program_from w t) x ≡ true → cause_in (program_from w t) es x ≡ 0
    unfolding cause_in
    no-cause h = read-cause (program_from w t) x (sum_of (rows t) es) (last_of (rows t) es) im h

  parts : Parts w t bytes
  parts =
      record {
        gate = λ e es x i. gate-open w t good e es x i;
        cause = cause-is;
        listed = λ es x. step-listed w t es x;
        full = λ e es x i. step-full w t (e ∷ es) x;
        full_only = λ e es x i. step-full-only w t (e ∷ es) x;
        kept = λ e es x y s i o q. leads-on e es x i o s y q;
        sums = λ e es x i. invariant-sum w t e es x i;
        begun = begins;
        unbroken = unsound;
        numbered = λ e es x k s i o q. stop-some e es x i o s k q;
        pauses = clear;
        halts = stopping;
        reads = reading;
        reads_only = no-cause;
        gate_on = λ e es x i im. resume-open w t good e es x i im;
        goes_on = λ e es x y s i im a v q. handed-on e es x i s im a v y q;
        taken = λ e es x k s i im a v q. handed-some e es x i s im a v k q;
      }

  -- theorem A: the demand for well-formed tables and data that holds their data's length
  pub demanded : Demand (program_from w t) bytes
  demanded = demand-holds w t bytes parts
