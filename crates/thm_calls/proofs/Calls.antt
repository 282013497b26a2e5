-- Any list of `voodoo_start`, `voodoo_step`, `voodoo_run` and `voodoo_resume` on the words that the last one left is a list of demand 3.
-- Assumes nothing.
use Rattle.std.proofs.Common.{Ok, Err, Option, Some}
use mathlib.Core.Path.{◌≡◌, refl, sym, ◌∙◌, ap, subst}
use mathlib.Core.Bool.{Bool, true, false}
use mathlib.Core.List.{List, [], ◌∷◌}
use Prim.Native.Nat.{ℕ, ◌≤◌}
use native.Mathlib.Omega.{arith}
use lib.Dec.{eqb}
use lib.ListN.{length}
use borrow.Author.Tests.{eq-eqb}
use Rattle.base_prelude.specs.Choice.{pick, if_lt, if_true}
use Rattle.base_prelude.proofs.Choice.{true-false, if_lt-no, either, either-eq, either_true}
use Rattle.base_limits.specs.Record.{fresh_of}
use Rattle.base_limits.specs.declared.Width.TheVariants.{Bits32}
use Rattle.base_limits.specs.declared.State.{State}
use Rattle.base_limits.specs.declared.State.TheVariants.{Running, Finished, Stopped, Paused}
use Rattle.base_limits.specs.declared.Machine.{Machine}
use Rattle.prog_tables.specs.Program.{program_from}
use Rattle.prog_tables.specs.Label.{Tables, rows}
use Rattle.prog_tables.specs.Hosts.{Hosts}
use Rattle.check_source.specs.Check.{Lent, check_of}
use Rattle.thm_acceptance.specs.Accepts.{is_accepted}
use Rattle.thm_soundness.specs.Program.{program_of}
use Rattle.thm_demand.proofs.Demand.{demand-three}
use Rattle.vm_definitions.specs.Step.{World, step_of, run_of, Continued, resume_of}
use Rattle.vm_definitions.specs.Start.{start_of, start_by, start_answer, start_leaves, start_world, begun_by}
use Rattle.vm_definitions.specs.Broken.{start_broken}
use Rattle.vm_definitions.specs.Play.{Call, start, step, run, resume, Invocation, start_broke, called_on, invoked_on, world_after, refusals_after}
use Rattle.vm_definitions.specs.Claim.{Demand, NoneBroken, started_by}
use Rattle.vm_definitions.specs.Lent.{world}
use Rattle.vm_definitions.specs.declared.Broken.{Broken}
use Rattle.vm_definitions.specs.declared.Broken.TheVariants.{No, At, Somewhere}
use Rattle.vm_definitions.specs.Start.{Started}
use Rattle.vm_definitions.specs.declared.StartError.TheVariants.{Refused, Unsound}
use Rattle.c_words.specs.Words.{record_size}
use Rattle.c_words.specs.Record.{is_stop, record_of}
use Rattle.c_words.specs.Reply.{error_number, error_place, stop_number, broken_number, outcome_number, refusal_reply, outcome_reply, resumed_reply, start_number, record_begun, opening_reply}
use Rattle.c_words.proofs.Laws.{Listed, record-back, record-long, record-listed}
use Rattle.c_voodoo.specs.Calls.{Answered, outcome_of, resumed_of, unfit, outcome_answer, resumed_answer, opening_answer, step_by, step_call, run_by, run_call, resume_by, resume_call, start_call}
use Rattle.thm_calls.specs.Calls.{Held, held_in, world_of, HostCall, invocations, answer_to, answer_of, held_after, numbers_after, started_from, Without35, Holds, HostDemand}
use Rattle.thm_calls.proofs.Words.{step_words, run-words, resume-words, step-listed, run-listed, resume-listed}

-- ---- no number is 35

abbrev Not35 : ℕ → Type 0
Not35 n = n ≡ 35 → ⊥

abbrev is_no : Broken → Bool
is_no No = true
is_no (At i) = false
is_no Somewhere = false

stop-not : (s : State) → Listed s → Not35 (stop_number s)
unfolding stop_number Listed is_stop if_lt
stop-not Running l h = absurd (omega (arith, h))
stop-not (Finished v) l h = absurd (omega (arith, h))
stop-not (Stopped k i) l h = absurd (true-false (sym l ∙ ap is_stop h))
stop-not (Paused q) l h = absurd (omega (arith, h))

broken-not : (b : Broken) (s : State) → Listed s → b ≡ No → Not35 (broken_number b s)
unfolding broken_number
broken-not b s l e = subst (λ (z : Broken). Not35 (broken_number z s)) (sym e) (stop-not s l)

-- going on that is not 35: 37, or as a step
resumed-not : (ws out : List ℕ) (y : Continued) → Listed y.after.world.machine.state → y.after.broken ≡ No
    → Not35 (resumed_reply (resumed_of y) ws out).number
unfolding resumed_reply refusal_reply outcome_reply outcome_number if_true
resumed-not ws out y l e = by y.unpaused
  where
    by : (b : Bool) → Not35 (pick b (refusal_reply 37 ws out) (outcome_reply (outcome_of y.after) ws out)).number
    by true h = absurd (omega (arith, h))
    by false h = broken-not _ _ l e h

abbrev P : Started → Type 0
P a = Not35 (start_number a)

begun : P (Ok tt)
unfolding start_number error_number
begun h = absurd (omega (arith, h))

refused : (k : ℕ) → eqb k 35 ≡ false → P (Err (Refused k))
unfolding start_number error_number
refused k e h = absurd (true-false (sym (eq-eqb k 35 h) ∙ e))

module _ (t : Tables) (bytes : List ℕ) where
  module _ (name args : List ℕ) where
    answer-not : (x : World) → Not35 (start_number (start_answer (program_from Bits32 t) bytes name args x))
    unfolding start_answer
    answer-not x =
        either P _ _ _ _
        (λ _. either-eq P _ _ _ _
        (λ _. either_true P _ _ _ (λ _. refused 22 refl) (λ _. either_true P _ _ _ (λ _. refused 23 refl) (λ _. begun)))
        (λ _. refused 21 refl))
        (λ _. refused 20 refl)

    start-not : (x : World) (b : Broken) → start_broke (start_by (program_from Bits32 t) bytes name args x b) ≡ No → Not35 (start_number (start_by (program_from Bits32 t) bytes name args x b))
    unfolding start_by start_broke
    start-not x No e = answer-not x
    start-not x (At i) e = absurd (true-false (sym (ap is_no e)))
    start-not x Somewhere e = absurd (true-false (sym (ap is_no e)))

    -- a start reads no record
    start-same : (r q : Machine) (st m : List ℕ) (b : Broken)
        → start_by (program_from Bits32 t) bytes name args (world r st m) b ≡ start_by (program_from Bits32 t) bytes name args (world q st m) b
    unfolding start_by start_answer
    start-same r q st m No = refl
    start-same r q st m (At i) = refl
    start-same r q st m Somewhere = refl

    abbrev X : List ℕ → List ℕ → World
    X st m = world (fresh_of 0 0 0) st m

    -- what the host holds where the start's answer is a
    abbrev held_by : List ℕ → List ℕ → List ℕ → Started → Held
    held_by ws st m a =
        record {
          words = record_begun a (begun_by (program_from Bits32 t) bytes name args (X st m) a).machine ws;
          stack = (begun_by (program_from Bits32 t) bytes name args (X st m) a).stack;
          memory = (begun_by (program_from Bits32 t) bytes name args (X st m) a).memory;
        }

    begun-holds : (ws st m : List ℕ) (r : Machine) → record_size ≤ length ws → Holds (held_by ws st m (Ok tt)) (begun_by (program_from Bits32 t) bytes name args (world r st m) (Ok tt))
    unfolding begun_by start_world record_begun fresh_of Listed
    begun-holds ws st m r h = record { record-words = record-back _ ws tt h; stack-words = refl; memory-bytes = refl }

    by-holds : (ws st m : List ℕ) (r : Machine) → record_of ws ≡ Some r → (a : Started) → Holds (held_by ws st m a) (begun_by (program_from Bits32 t) bytes name args (world r st m) a)
    unfolding begun_by record_begun
    by-holds ws st m r e (Ok _) = begun-holds ws st m r (record-long ws r e)
    by-holds ws st m r e (Err (Refused k)) = record { record-words = e; stack-words = refl; memory-bytes = refl }
    by-holds ws st m r e (Err (Unsound b)) = record { record-words = e; stack-words = refl; memory-bytes = refl }

    held_start : (ws st m out : List ℕ) → record_size ≤ length ws
        → held_in (start_call ws st m out t bytes name args) ≡ held_by ws st m (start_of (program_from Bits32 t) bytes name args (X st m))
    unfolding start_call opening_answer opening_reply start_leaves
    held_start ws st m out h = ap held_in (if_lt-no (unfit ws st m out 35) _ h)

    number-start : (ws st m out : List ℕ) → record_size ≤ length ws
        → (start_call ws st m out t bytes name args).number ≡ start_number (start_of (program_from Bits32 t) bytes name args (X st m))
    unfolding start_call opening_answer opening_reply
    number-start ws st m out h = ap (λ (a : Answered). a.number) (if_lt-no (unfit ws st m out 35) _ h)

    same : (r : Machine) (st m : List ℕ) → start_of (program_from Bits32 t) bytes name args (X st m) ≡ start_of (program_from Bits32 t) bytes name args (world r st m)
    unfolding start_of
    same r st m = start-same (fresh_of 0 0 0) r st m (start_broken (program_from Bits32 t) (length bytes))

    start-holds : (ws st m out : List ℕ) (r : Machine) → record_of ws ≡ Some r
        → Holds (held_in (start_call ws st m out t bytes name args)) (start_leaves (program_from Bits32 t) bytes name args (world r st m))
    unfolding start_leaves
    start-holds ws st m out r e =
        subst (λ (h : Held). Holds h (begun_by (program_from Bits32 t) bytes name args (world r st m) (start_of (program_from Bits32 t) bytes name args (world r st m))))
        (sym (held_start ws st m out (record-long ws r e)))
        (subst (λ (a : Started). Holds (held_by ws st m (start_of (program_from Bits32 t) bytes name args (X st m))) (begun_by (program_from Bits32 t) bytes name args (world r st m) a)) (same r st m)
        (by-holds ws st m r e (start_of (program_from Bits32 t) bytes name args (X st m))))

    start-number : (ws st m out : List ℕ) (r : Machine) → record_of ws ≡ Some r → start_broke (start_of (program_from Bits32 t) bytes name args (world r st m)) ≡ No
        → Not35 (start_call ws st m out t bytes name args).number
    unfolding start_of
    start-number ws st m out r e h =
        subst Not35 (sym (number-start ws st m out (record-long ws r e)))
        (start-not (X st m) (start_broken (program_from Bits32 t) (length bytes)) (ap start_broke (same r st m) ∙ h))

  -- ---- a step and a run

  module _ (ws st m out : List ℕ) (r : Machine) (e : record_of ws ≡ Some r) where
    step-holds : Holds (held_in (step_call ws st m out t)) (step_of (program_from Bits32 t) (world r st m)).world
    unfolding step_call step_by outcome_answer
    step-holds =
        record {
          record-words = step_words ws st m out t r e;
          stack-words = ap (λ (x : Option Machine). (step_by ws st m out t x).stack) e;
          memory-bytes = ap (λ (x : Option Machine). (step_by ws st m out t x).memory) e;
        }

    step-number : (step_of (program_from Bits32 t) (world r st m)).broken ≡ No → Not35 (step_call ws st m out t).number
    unfolding step_call step_by outcome_answer outcome_reply outcome_number
    step-number h =
        subst (λ (x : Option Machine). Not35 (step_by ws st m out t x).number) (sym e)
        (broken-not _ _ (step-listed t (world r st m) (record-listed ws r e)) h)

    run_holds : (budget : ℕ) → Holds (held_in (run_call ws st m out t budget)) (run_of (program_from Bits32 t) budget (world r st m)).world
    unfolding run_call run_by outcome_answer
    run_holds budget =
        record {
          record-words = run-words ws st m out t r e budget;
          stack-words = ap (λ (x : Option Machine). (run_by ws st m out t budget x).stack) e;
          memory-bytes = ap (λ (x : Option Machine). (run_by ws st m out t budget x).memory) e;
        }

    run-number : (budget : ℕ) → (run_of (program_from Bits32 t) budget (world r st m)).broken ≡ No → Not35 (run_call ws st m out t budget).number
    unfolding run_call run_by outcome_answer outcome_reply outcome_number
    run-number budget h =
        subst (λ (x : Option Machine). Not35 (run_by ws st m out t budget x).number) (sym e)
        (broken-not _ _ (run-listed t budget (world r st m) (record-listed ws r e)) h)

    resume-holds : (v : ℕ) → Holds (held_in (resume_call ws st m out t v)) (resume_of (program_from Bits32 t) v (world r st m)).after.world
    unfolding resume_call resume_by resumed_answer
    resume-holds v =
        record {
          record-words = resume-words ws st m out t r e v;
          stack-words = ap (λ (x : Option Machine). (resume_by ws st m out t v x).stack) e;
          memory-bytes = ap (λ (x : Option Machine). (resume_by ws st m out t v x).memory) e;
        }

    resume-number : (v : ℕ) → (resume_of (program_from Bits32 t) v (world r st m)).after.broken ≡ No
        → Not35 (resume_call ws st m out t v).number
    unfolding resume_call resume_by resumed_answer
    resume-number v h =
        subst (λ (x : Option Machine). Not35 (resume_by ws st m out t v x).number) (sym e)
        (resumed-not ws out (resume_of (program_from Bits32 t) v (world r st m)) (resume-listed t v (world r st m) (record-listed ws r e)) h)

    -- ---- any call

    call-holds : (k : Call) → Holds (held_in (answer_to t bytes k ws st m out)) (called_on (program_from Bits32 t) bytes k (world r st m)).world
    unfolding answer_to called_on
    call-holds (start name args) = start-holds name args ws st m out r e
    call-holds step = step-holds
    call-holds (run budget) = run_holds budget
    call-holds (resume v) = resume-holds v

    call-number : (k : Call) → (called_on (program_from Bits32 t) bytes k (world r st m)).broken ≡ No → Not35 (answer_to t bytes k ws st m out).number
    unfolding answer_to called_on
    call-number (start name args) h = start-number name args ws st m out r e h
    call-number step h = step-number h
    call-number (run budget) h = run-number budget h
    call-number (resume v) h = resume-number v h

  module _ (c : HostCall) (h : Held) (x : World) (q : Holds h x) where
    abbrev found : List ℕ → World
    found st = world x.machine st c.invocation.memory

    one_holds : Holds (held_in (answer_of t bytes c h)) (invoked_on (program_from Bits32 t) bytes c.invocation x).world
    unfolding answer_of invoked_on
    one_holds =
        subst (λ (st : List ℕ). Holds (held_in (answer_to t bytes c.invocation.call h.words h.stack c.invocation.memory c.result)) (called_on (program_from Bits32 t) bytes c.invocation.call (found st)).world)
        q.stack-words
        (call-holds h.words h.stack c.invocation.memory c.result x.machine q.record-words c.invocation.call)

    one_number : (invoked_on (program_from Bits32 t) bytes c.invocation x).broken ≡ No → Not35 (answer_of t bytes c h).number
    unfolding answer_of invoked_on
    one_number =
        subst (λ (st : List ℕ). (called_on (program_from Bits32 t) bytes c.invocation.call (found st)).broken ≡ No → Not35 (answer_to t bytes c.invocation.call h.words h.stack c.invocation.memory c.result).number)
        q.stack-words
        (call-number h.words h.stack c.invocation.memory c.result x.machine q.record-words c.invocation.call)

  -- ---- lists

  after : (h : Held) (x : World) (cs : List HostCall) → Holds h x
      → Holds (held_after t bytes h cs) (world_after (program_from Bits32 t) bytes x (invocations cs))
  unfolding held_after world_after invocations
  after h x [] q = q
  after h x (c ∷ cs) q = after (held_in (answer_of t bytes c h)) (invoked_on (program_from Bits32 t) bytes c.invocation x).world cs (one_holds c h x q)

  numbers : (h : Held) (x : World) (cs : List HostCall) → Holds h x → NoneBroken (refusals_after (program_from Bits32 t) bytes x (invocations cs))
      → Without35 (numbers_after t bytes h cs)
  unfolding numbers_after refusals_after invocations NoneBroken Without35
  numbers h x [] q n = tt
  numbers h x (c ∷ cs) q n =
      (one_number c h x q n.0, numbers (held_in (answer_of t bytes c h)) (invoked_on (program_from Bits32 t) bytes c.invocation x).world cs (one_holds c h x q) n.1)

  -- ---- a list that begins with an accepted start

  module _ (h : Held) (name args out : List ℕ) (long : record_size ≤ length h.words) (e : start_of (program_from Bits32 t) bytes name args (world_of h) ≡ Ok tt) where
    first_holds : Holds (held_in (start_call h.words h.stack h.memory out t bytes name args)) (start_leaves (program_from Bits32 t) bytes name args (world_of h))
    unfolding start_leaves
    first_holds =
        subst (λ (g : Held). Holds g (begun_by (program_from Bits32 t) bytes name args (world_of h) (start_of (program_from Bits32 t) bytes name args (world_of h))))
        (sym (held_start name args h.words h.stack h.memory out long))
        (subst (λ (a : Started). Holds (held_by name args h.words h.stack h.memory a) (begun_by (program_from Bits32 t) bytes name args (world_of h) a)) (sym e)
        (begun-holds name args h.words h.stack h.memory (fresh_of 0 0 0) long))

    first-number : Not35 (start_call h.words h.stack h.memory out t bytes name args).number
    unfolding start_number error_number
    first-number q =
        absurd (omega (arith, sym (ap start_number e) ∙ sym (number-start name args h.words h.stack h.memory out long) ∙ q))

  pub host-demand : Demand (program_from Bits32 t) bytes → HostDemand t bytes
  unfolding Demand HostDemand held_after numbers_after answer_of answer_to world_after invoked_on called_on started_by refusals_after NoneBroken Without35
  host-demand d h name args out cs long e all =
      let s = d (world_of h) name args (invocations cs) e all in (
        after _ _ cs (first_holds h name args out long e),
        s.0,
        (first-number h name args out long e, numbers _ _ cs (first_holds h name args out long e) s.1.1),
      )

-- demand 3 of an accepted source, said of the calls from C: g is the host's list
pub host-demand-three : (g : Hosts) (s : List ℕ) (b : Lent) → is_accepted (check_of Bits32 g s b).answer ≡ true
    → HostDemand (program_of (check_of Bits32 g s b)) (check_of Bits32 g s b).bytes
host-demand-three g s b h = host-demand (program_of (check_of Bits32 g s b)) (check_of Bits32 g s b).bytes (demand-three Bits32 g s b h)
