-- The words that a call leaves hold the record that the definition leaves.
-- Assumes nothing.
use Rattle.std.proofs.Common.{Ok, Option, Some, None}
use mathlib.Core.Path.{◌≡◌, refl, sym, ◌∙◌, ap, subst}
use mathlib.Core.Bool.{Bool, true, false, not}
use mathlib.Core.List.{List, [], ◌∷◌}
use Prim.Native.Nat.{ℕ, zero, suc, ◌+◌, ◌<◌, ◌≤◌}
use native.Mathlib.Omega.{arith}
use lib.Dec.{eqb, ltb}
use lib.ListN.{length, get_or}
use borrow.Author.Tests.{ltb-false}
use Rattle.base_prelude.specs.Choice.{pick, if_lt, if_eq, if_true}
use Rattle.base_prelude.proofs.Choice.{true-false, if_lt-no, if_eq-no, either-eq}
use Rattle.base_limits.specs.declared.Width.{Width}
use Rattle.base_limits.specs.declared.Width.TheVariants.{Bits32}
use Rattle.base_limits.specs.declared.State.{State}
use Rattle.base_limits.specs.declared.State.TheVariants.{Running, Finished, Stopped, Paused}
use Rattle.base_limits.specs.declared.Machine.{Machine}
use Rattle.base_limits.specs.Record.{fresh_of, stopped, with_state, pause_of}
use Rattle.prog_tables.specs.Program.{program_from}
use Rattle.prog_tables.specs.Label.{Tables, rows}
use Rattle.vm_definitions.specs.Broken.{step_broken, resume_broken}
use Rattle.vm_definitions.specs.Step.{World, Effect, stops, leaves, After, idle, effected, guarded, in_state, in_state_of, import_number, statement_of, counting, effect_of, step_of, run_of, handed_in, Continued, on_pause, resume_of}
use Rattle.vm_definitions.specs.Start.{start_of, start_leaves, start_world, begun_by}
use Rattle.vm_definitions.specs.Lent.{world}
use Rattle.vm_definitions.specs.declared.Broken.{Broken}
use Rattle.vm_definitions.specs.declared.Broken.TheVariants.{No, At, Somewhere}
use Rattle.vm_definitions.specs.Start.{Started}
use Rattle.vm_definitions.specs.declared.Outcome.{Outcome}
use Rattle.c_words.specs.Record.{is_stop, record_of, state_number, record_over}
use Rattle.c_words.specs.Reply.{changes, record_after, refusal_reply, outcome_reply, resumed_reply, record_begun, opening_reply}
use Rattle.c_words.specs.Words as word
use Rattle.c_words.specs.Words.{record_size}
use Rattle.c_words.proofs.Laws.{Listed, record-back, record-long, record-state, record-listed}
use Rattle.vm_definitions.proofs.Outcomes.{Fine, effect-fine, handed-in-fine, statement-cases, resume-cases}
use Rattle.c_voodoo.specs.Calls.{Answered, outcome_of, resumed_of, unfit, outcome_answer, resumed_answer, opening_answer, step_by, step_call, run_by, run_call, resume_by, resume_call, start_call}

-- where nothing is written, the record is as it was
abbrev Quiet : World → After → Type 0
Quiet x y = changes (state_number x.machine.state) (outcome_of y) ≡ false → y.world.machine ≡ x.machine

quiet-idle : (x : World) (b : Broken) → Quiet x (idle x b)
unfolding idle
quiet-idle x b h = refl

-- an outcome that counts is written
counts : (s n : ℕ) (r : Machine) (b : Broken) → changes s (record { machine = r; count = 1 + n; broken = b }) ≡ true
unfolding changes
counts s n r b = if_eq-no _ true (some n)
  where
    some : (n : ℕ) → 1 + n ≡ 0 → ⊥
    some n h = omega arith

-- a stop is written where the record had not stopped before
quiet-effected : (x z : World) (e : Effect) → eqb word.stopped (state_number x.machine.state) ≡ false → Quiet x (effected z e)
unfolding effected changes state_number stopped if_eq
quiet-effected x z (stops k) q h = true-false (sym (ap not q) ∙ h)
quiet-effected x z (leaves y) q h = true-false h

-- so is a pause
quiet-paused : (x : World) (vs : List ℕ) (n : ℕ) → x.machine.state ≡ Running → Quiet x (idle (in_state_of (Paused (pause_of n vs)) x) No)
unfolding idle in_state_of with_state changes state_number if_eq
quiet-paused x vs n q h = true-false (rw q at h)

running-number : (s : State) → s ≡ Running → eqb word.stopped (state_number s) ≡ false
unfolding state_number
running-number s e = rw e

quiet-statement : (t : Tables) (x : World) → x.machine.state ≡ Running → Quiet x (statement_of (program_from Bits32 t) x)
quiet-statement t x e =
    statement-cases (Quiet x) (program_from Bits32 t) x (quiet-effected x x (stops 32) (running-number _ e))
    (λ vs. quiet-paused x vs (import_number (program_from Bits32 t) x) e)
    (quiet-effected x x (effect_of (program_from Bits32 t) x) (running-number _ e))

quiet-guarded : (x : World) (y : After) (b : Broken) → Quiet x y → Quiet x (guarded x y b)
unfolding guarded
quiet-guarded x y No q = q
quiet-guarded x y (At i) q = quiet-idle x (At i)
quiet-guarded x y Somewhere q = quiet-idle x Somewhere

quiet-in : (x : World) (s : State) (y : After) (b : Broken) → (s ≡ Running → Quiet x y) → Quiet x (in_state s (guarded x y b) (idle x No))
unfolding in_state
quiet-in x Running y b q = quiet-guarded x y b (q refl)
quiet-in x (Finished v) y b q = quiet-idle x No
quiet-in x (Stopped k i) y b q = quiet-idle x No
quiet-in x (Paused v) y b q = quiet-idle x No

quiet_step : (t : Tables) (x : World) → Quiet x (step_of (program_from Bits32 t) x)
unfolding step_of
quiet_step t x =
    quiet-in x x.machine.state (statement_of (program_from Bits32 t) x)
    (step_broken (program_from Bits32 t) x.machine x.stack (length x.memory)) (quiet-statement t x)

quiet-run : (t : Tables) (budget : ℕ) (x : World) → Quiet x (run_of (program_from Bits32 t) budget x)
unfolding run_of if_eq counting
quiet-run t zero x = quiet-idle x No
quiet-run t (suc b) x = by (eqb (step_of (program_from Bits32 t) x).count 0)
  where
    by : (v : Bool) → Quiet x (pick v (step_of (program_from Bits32 t) x) (counting 1 (run_of (program_from Bits32 t) b (step_of (program_from Bits32 t) x).world)))
    by true = quiet_step t x
    by false =
        λ h.
        true-false
        (sym
        (counts (state_number x.machine.state) (run_of (program_from Bits32 t) b (step_of (program_from Bits32 t) x).world).count
        (run_of (program_from Bits32 t) b (step_of (program_from Bits32 t) x).world).world.machine (run_of (program_from Bits32 t) b (step_of (program_from Bits32 t) x).world).broken)
        ∙ h)

-- going on: 37 leaves the record, else it is as a step
quiet-on : (x : World) (s : State) (y : After) (b : Broken) → x.machine.state ≡ s
    → (eqb word.stopped (state_number x.machine.state) ≡ false → Quiet x y) → Quiet x (on_pause s (guarded x y b) x).after
unfolding on_pause state_number
quiet-on x Running y b e q = quiet-idle x No
quiet-on x (Finished v) y b e q = quiet-idle x No
quiet-on x (Stopped k i) y b e q = quiet-idle x No
quiet-on x (Paused v) y b e q = quiet-guarded x y b (q (rw e))

quiet-resume : (t : Tables) (v : ℕ) (x : World) → Quiet x (resume_of (program_from Bits32 t) v x).after
unfolding resume_of
quiet-resume t v x =
    quiet-on x x.machine.state _ (resume_broken (program_from Bits32 t) x.machine x.stack (length x.memory)) refl
    (quiet-effected x (in_state_of Running x) (handed_in (program_from Bits32 t) v (in_state_of Running x)))

-- 37 leaves the record
unpaused-same : (t : Tables) (v : ℕ) (x : World) → (resume_of (program_from Bits32 t) v x).unpaused ≡ true
    → (resume_of (program_from Bits32 t) v x).after.world.machine ≡ x.machine
unfolding idle
unpaused-same t v x =
    resume-cases (λ (y : Continued). y.unpaused ≡ true → y.after.world.machine ≡ x.machine) (program_from Bits32 t) v x (λ h. refl)
    (λ b h. refl) (λ h. absurd (true-false (sym h)))

-- ---- the state that a call leaves is one that words can hold

abbrev Stop : ℕ → Type 0
Stop k = is_stop k ≡ true

s30 : Stop 30
unfolding is_stop if_lt
s30 = refl

s31 : Stop 31
unfolding is_stop if_lt
s31 = refl

s32 : Stop 32
unfolding is_stop if_lt
s32 = refl

s33 : Stop 33
unfolding is_stop if_lt
s33 = refl

s34 : Stop 34
unfolding is_stop if_lt
s34 = refl

finished-listed : (v : ℕ) → Listed (Finished v)
unfolding Listed
finished-listed v = tt

abbrev FineEffect : Effect → Type 0
FineEffect = Fine Stop s30 s31 s32 s33 s34 Listed finished-listed

abbrev LeavesListed : After → Type 0
LeavesListed y = Listed y.world.machine.state

effected-listed : (x : World) (e : Effect) → FineEffect e → LeavesListed (effected x e)
unfolding effected Fine stopped Listed
effected-listed x (stops k) h = h
effected-listed x (leaves y) h = h

guarded-listed : (x : World) (y : After) (b : Broken) → Listed x.machine.state → LeavesListed y → LeavesListed (guarded x y b)
unfolding guarded idle
guarded-listed x y No l h = h
guarded-listed x y (At i) l h = l
guarded-listed x y Somewhere l h = l

in-listed : (x : World) (s : State) (y : After) (b : Broken) → Listed x.machine.state → LeavesListed y
    → LeavesListed (in_state s (guarded x y b) (idle x No))
unfolding in_state idle
in-listed x Running y b l h = guarded-listed x y b l h
in-listed x (Finished v) y b l h = l
in-listed x (Stopped k i) y b l h = l
in-listed x (Paused q) y b l h = l

paused-listed : (x : World) (s : State) → Listed s → LeavesListed (idle (in_state_of s x) No)
unfolding idle in_state_of with_state
paused-listed x s l = l

pause-listed : (vs : List ℕ) (n : ℕ) → Listed (Paused (pause_of n vs))
unfolding Listed
pause-listed vs n = tt

statement-listed : (t : Tables) (x : World) → Listed x.machine.state → LeavesListed (statement_of (program_from Bits32 t) x)
unfolding Fine
statement-listed t x l =
    statement-cases LeavesListed (program_from Bits32 t) x (effected-listed x (stops 32) s32) (λ vs. paused-listed x _ (pause-listed vs _))
    (effected-listed x _ (effect-fine Stop s30 s31 s32 s33 s34 Listed finished-listed (program_from Bits32 t) x l))

pub step-listed : (t : Tables) (x : World) → Listed x.machine.state → LeavesListed (step_of (program_from Bits32 t) x)
unfolding step_of
step-listed t x l = in-listed x x.machine.state _ _ l (statement-listed t x l)

running-listed : (x : World) → Listed (in_state_of Running x).machine.state
unfolding in_state_of with_state Listed
running-listed x = tt

pub resume-listed : (t : Tables) (v : ℕ) (x : World) → Listed x.machine.state
    → LeavesListed (resume_of (program_from Bits32 t) v x).after
unfolding idle
resume-listed t v x l =
    resume-cases (λ (y : Continued). LeavesListed y.after) (program_from Bits32 t) v x l (λ b. l)
    (effected-listed (in_state_of Running x) _
    (handed-in-fine Stop s30 s31 s32 s33 s34 Listed finished-listed (program_from Bits32 t) (in_state_of Running x) (running-listed x) v))

pub run-listed : (t : Tables) (budget : ℕ) (x : World) → Listed x.machine.state → LeavesListed (run_of (program_from Bits32 t) budget x)
unfolding run_of counting idle
run-listed t zero x l = l
run-listed t (suc b) x l =
    either-eq LeavesListed (step_of (program_from Bits32 t) x).count 0 (step_of (program_from Bits32 t) x) (counting 1 (run_of (program_from Bits32 t) b (step_of (program_from Bits32 t) x).world))
    (λ _. step-listed t x l) (λ _. run-listed t b (step_of (program_from Bits32 t) x).world (step-listed t x l))

-- the record's words behind a step or a run that leaves y
words-after : (ws : List ℕ) (x : World) (y : After) → record_of ws ≡ Some x.machine → LeavesListed y → Quiet x y
    → record_of (record_after (outcome_of y) ws) ≡ Some y.world.machine
unfolding record_after if_true
words-after ws x y e l q = by (changes (get_or ws word.state 0) (outcome_of y)) refl
  where
    by : (b : Bool) → changes (get_or ws word.state 0) (outcome_of y) ≡ b
        → record_of (pick b (record_over y.world.machine ws) ws) ≡ Some y.world.machine
    by true h = record-back y.world.machine ws l (record-long ws x.machine e)
    by false h =
        e ∙ ap Some (sym (q (ap (λ (s : ℕ). changes s (outcome_of y)) (sym (record-state ws x.machine e)) ∙ h)))

-- the same behind a going on
words-resumed : (ws out : List ℕ) (x : World) (y : Continued) → record_of ws ≡ Some x.machine → LeavesListed y.after
    → Quiet x y.after → (y.unpaused ≡ true → y.after.world.machine ≡ x.machine)
    → record_of (resumed_reply (resumed_of y) ws out).words ≡ Some y.after.world.machine
unfolding resumed_reply refusal_reply outcome_reply if_true
words-resumed ws out x y e l q u = by y.unpaused refl
  where
    by : (b : Bool) → y.unpaused ≡ b
        → record_of (pick b (refusal_reply 37 ws out) (outcome_reply (outcome_of y.after) ws out)).words ≡ Some y.after.world.machine
    by true h = e ∙ ap Some (sym (u h))
    by false h = words-after ws x y.after e l q

module _ (ws st m out : List ℕ) (t : Tables) (r : Machine) (e : record_of ws ≡ Some r) where
  -- a step of a lent record is a step of the record that it holds
  pub step_words : record_of (step_call ws st m out t).words ≡ Some (step_of (program_from Bits32 t) (world r st m)).world.machine
  unfolding step_call step_by outcome_answer outcome_reply
  step_words =
      ap (λ (x : Option Machine). record_of (step_by ws st m out t x).words) e
      ∙ words-after ws (world r st m) (step_of (program_from Bits32 t) (world r st m)) e (step-listed t (world r st m) (record-listed ws r e)) (quiet_step t (world r st m))

  pub run-words : (budget : ℕ) → record_of (run_call ws st m out t budget).words ≡ Some (run_of (program_from Bits32 t) budget (world r st m)).world.machine
  unfolding run_call run_by outcome_answer outcome_reply
  run-words budget =
      ap (λ (x : Option Machine). record_of (run_by ws st m out t budget x).words) e
      ∙ words-after ws (world r st m) (run_of (program_from Bits32 t) budget (world r st m)) e (run-listed t budget (world r st m) (record-listed ws r e)) (quiet-run t budget (world r st m))

  pub resume-words : (v : ℕ)
      → record_of (resume_call ws st m out t v).words ≡ Some (resume_of (program_from Bits32 t) v (world r st m)).after.world.machine
  unfolding resume_call resume_by resumed_answer
  resume-words v =
      ap (λ (x : Option Machine). record_of (resume_by ws st m out t v x).words) e
      ∙ words-resumed ws out (world r st m) (resume_of (program_from Bits32 t) v (world r st m)) e
      (resume-listed t v (world r st m) (record-listed ws r e)) (quiet-resume t v (world r st m)) (unpaused-same t v (world r st m))

-- a start that has begun leaves the record of the definition
module _ (ws st m out : List ℕ) (t : Tables) (bytes name args : List ℕ) where
  abbrev S : Started
  S = start_of (program_from Bits32 t) bytes name args (world (fresh_of 0 0 0) st m)

  begun-listed : S ≡ Ok tt → Listed (start_leaves (program_from Bits32 t) bytes name args (world (fresh_of 0 0 0) st m)).machine.state
  unfolding start_leaves begun_by start_world fresh_of Listed
  begun-listed e = subst (λ (a : Started). Listed (begun_by (program_from Bits32 t) bytes name args (world (fresh_of 0 0 0) st m) a).machine.state) (sym e) tt

  pub start-words : record_size ≤ length ws → S ≡ Ok tt
      → record_of (start_call ws st m out t bytes name args).words ≡ Some (start_leaves (program_from Bits32 t) bytes name args (world (fresh_of 0 0 0) st m)).machine
  unfolding start_call opening_answer opening_reply record_begun
  start-words h e =
      ap (λ (y : Answered). record_of y.words) (if_lt-no (unfit ws st m out 35) _ h)
      ∙ ap (λ (a : Started). record_of (record_begun a (start_leaves (program_from Bits32 t) bytes name args (world (fresh_of 0 0 0) st m)).machine ws)) e
      ∙ record-back (start_leaves (program_from Bits32 t) bytes name args (world (fresh_of 0 0 0) st m)).machine ws (begun-listed e) h
