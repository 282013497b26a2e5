-- The claim from its parts: good worlds are sound, and every list of calls leaves one.
-- Assumes nothing.
use Rattle.std.proofs.Common.{Ok, Err}
use mathlib.Core.Path.{◌≡◌, refl, sym, ◌∙◌, ap, subst}
use mathlib.Core.Bool.{Bool, true, false}
use mathlib.Core.Option.{none}
use mathlib.Core.List.{List, [], ◌∷◌, ◌++◌}
use Prim.Native.Nat.{ℕ, zero, suc, ◌≤◌, ◌<◌}
use native.Mathlib.Decide.{ℕ_discrete}
use native.Mathlib.Omega.{arith}
use lib.ListN.{length}
use Rattle.base_prelude.specs.Choice.{if_true}
use Rattle.base_prelude.proofs.Choice.{if_eq-yes, if_eq-no, true-false, either_true}
use Rattle.base_limits.specs.Width.{memory_limit}
use Rattle.base_limits.specs.declared.Width.{Width}
use Rattle.base_limits.specs.declared.State.{State}
use Rattle.base_limits.specs.declared.State.TheVariants.{Running, Finished, Stopped, Paused}
use Rattle.base_limits.specs.declared.Pause.{Pause}
use Rattle.base_limits.specs.Record.{stopped, with_state}
use Rattle.prog_tables.specs.Tests.{both}
use Rattle.prog_tables.proofs.Each.{both_left, both_right, both_true, one-no, one-rest}
use Rattle.prog_tables.specs.Label.{Tables, rows}
use Rattle.prog_tables.specs.Program.{program_from}
use Rattle.vm_definitions.specs.Step.{World, Effect, stops, leaves, effect_of, address_of, After, idle, effected, guarded, in_state_of, step_of, counting, run_of, handed_in, Continued, on_pause, resume_of}
use Rattle.vm_definitions.specs.Access.{word_good}
use Rattle.vm_definitions.specs.Broken.{resume_broken}
use Rattle.vm_definitions.specs.Start.{start_of, start_leaves, start_by, start_answer, started_function, begun_by}
use Rattle.vm_definitions.specs.Causes.{arguments_read}
use Rattle.vm_definitions.specs.Ledger.{Event, counted, Entry, Ledger, fed, counted_in, ledger_of, sum_of}
use Rattle.vm_definitions.specs.Play.{Call, start, step, run, resume, Invocation, CallResult, events_of, resume_events, start_events, start_broke, called_on, invoked_on, world_after, events_after, refusals_after}
use Rattle.vm_definitions.specs.Claim.{running_with, cause_in, at_import, pause_in, paused_as, is_stopped, is_paused, is_held, stopped_by, with_memory, StepSound, ResumeSound, PauseSound, StateSound, is_finished, Sound, stop_memory_in, stop_memory, AllLong, NoneBroken, started_by, Demand}
use Rattle.vm_definitions.specs.declared.Broken.{Broken}
use Rattle.vm_definitions.specs.declared.Broken.TheVariants.{No, At, Somewhere}
use Rattle.vm_definitions.specs.Start.{Started}
use Rattle.vm_definitions.specs.declared.StartError.TheVariants.{Refused, Unsound}
use Rattle.vm_definitions.proofs.Invariant.{FrameAt, Under, Invariant}
use Rattle.vm_definitions.proofs.Outcomes.{Fine, effect-fine, handed-in-fine}
use Rattle.vm_definitions.proofs.Paused.{still-good}
use Rattle.vm_definitions.proofs.Lists.{Asked, Good, GoodNow, runs, stops_at, pauses_at, ends, Parts, with-state, effected-count, step-stopped, step-paused, resume-refused, step-cases, step-whole, run-good}

-- any number; a state that is no stop and no pause
abbrev Any : ℕ → Type 0
Any k = Unit {0}

abbrev Going : State → Type 0
Going z = is_held z ≡ false

-- ---- lists

unfoldable IsOpen : Ledger → Type 0
IsOpen [] = ⊥
IsOpen (e ∷ es) = Unit {0}

cons-some : (e : Entry) (es : Ledger) → e ∷ es ≡ [] → ⊥
unfolding IsOpen
cons-some e es q = subst IsOpen q tt

ledger-both : (t : Tables) (es : Ledger) (us vs : List Event) → ledger_of (rows t) es (us ++ vs) ≡ ledger_of (rows t) (ledger_of (rows t) es us) vs
unfolding ledger_of
ledger-both t es [] vs = refl
ledger-both t es (u ∷ us) vs = ledger-both t (fed (rows t) u es) us vs

-- ---- another memory

module _ (w : Width) (t : Tables) (m : ℕ) where
  -- the world with other bytes in memory
  abbrev with_bytes : World → List ℕ → World
  with_bytes x b = record { machine = x.machine; stack = x.stack; memory = b }

  other-bytes : (e : Entry) (es : Ledger) (x : World) → Invariant w t e es x → (b : List ℕ) → length b ≡ length x.memory → Invariant w t e es (with_bytes x b)
  other-bytes e es x i b l =
      record {
        frame = subst (λ (n : ℕ). FrameAt w t n x.stack e.func x.machine.frame x.machine.next) (sym l) i.frame;
        under = subst (λ (n : ℕ). Under w t n x.stack e.call es x.machine.frame) (sym l) i.under;
        ends = i.ends;
        lent = i.lent;
        few = i.few;
        top = subst (λ (n : ℕ). x.machine.top ≤ n) (sym l) i.top;
        data-fits = subst (λ (n : ℕ). t.data_length ≤ n) (sym l) i.data-fits;
        short = subst (λ (n : ℕ). n ≤ memory_limit w) (sym l) i.short;
      }

  good-bytes : (s : List ℕ) (es : Ledger) (x : World) → Good w t m s es x → (b : List ℕ) → length b ≡ m → Good w t m s es (with_bytes x b)
  unfolding running_with with_state
  good-bytes _ _ _ (runs e es x l s i) b h = runs e es (with_bytes x b) h s (other-bytes e es x i b (h ∙ sym l))
  good-bytes _ _ _ (stops_at e es x k n l s i g) b h =
      stops_at e es (with_bytes x b) k n h s (other-bytes e es x i b (h ∙ sym l))
      (record { listed = g.listed; at = g.at; long = g.long ∙ l ∙ sym h; met = g.met })
  good-bytes _ _ _ (pauses_at e es x q l s i g) b h =
      pauses_at e es (with_bytes x b) q h s (other-bytes e es x i b (h ∙ sym l))
      (record { long = g.long ∙ l ∙ sym h; import = g.import; read = g.read; asks = g.asks })
  good-bytes _ _ _ (ends x v l s u) b h = ends (with_bytes x b) v h s u

  -- a world that is neither stopped nor paused is good with any memory of such a step
  good-any : (s : List ℕ) (es : Ledger) (x : World) → Good w t m s es x → is_held x.machine.state ≡ false → (r : List ℕ) → Good w t m r es x
  unfolding is_held is_stopped is_paused
  good-any _ _ _ (runs e es x l s i) f r = runs e es x l s i
  good-any _ _ _ (stops_at e es x k n l s i g) f r = absurd (true-false (sym (ap is_held s) ∙ f))
  good-any _ _ _ (pauses_at e es x q l s i g) f r = absurd (true-false (sym (ap is_held s) ∙ f))
  good-any _ _ _ (ends x v l s u) f r = ends x v l s u

module _ (w : Width) (t : Tables) (bytes : List ℕ) (p : Parts w t bytes) where
  -- ---- the next step

  module _ (e : Entry) (es : Ledger) (x : World) (s : x.machine.state ≡ Running) (i : Invariant w t e es x) where
    abbrev stepped : After
    stepped = step_of (program_from w t) x

    counts-one : cause_in (program_from w t) (e ∷ es) x ≡ 0 → at_import (program_from w t) x ≡ false → stepped.count ≡ 1
    counts-one z n =
        step-cases w t bytes p e es x s i (λ h d. absurd (omega (arith, h, z))) (λ h a d. absurd (true-false (sym h ∙ n)))
        (λ y h a q d. ap (λ (y : After). y.count) d ∙ effected-count x y)

    -- a statement of its own leaves a record that is neither stopped nor paused
    not-held : (y : World) → effect_of (program_from w t) x ≡ leaves y → stepped ≡ effected x (leaves y) → is_held stepped.world.machine.state ≡ false
    unfolding effected Fine is_held is_stopped is_paused
    not-held y q d =
        ap (λ (y : After). is_held y.world.machine.state) d
        ∙ subst (Fine Any tt tt tt tt tt Going (λ v. refl)) q
        (effect-fine Any tt tt tt tt tt Going (λ v. refl) (program_from w t) x (ap is_held s))

    no_stop : cause_in (program_from w t) (e ∷ es) x ≡ 0 → is_stopped stepped.world.machine.state ≡ false
    unfolding paused_as with_state is_stopped is_held
    no_stop z =
        step-cases w t bytes p e es x s i (λ h d. absurd (omega (arith, h, z))) (λ h a d. ap (λ (y : After). is_stopped y.world.machine.state) d)
        (λ y h a q d. one-no (is_stopped stepped.world.machine.state) (is_paused stepped.world.machine.state) (not-held y q d))

    no-pause : at_import (program_from w t) x ≡ false → is_paused stepped.world.machine.state ≡ false
    unfolding stopped_by stopped is_paused is_held
    no-pause n =
        step-cases w t bytes p e es x s i (λ h d. ap (λ (y : After). is_paused y.world.machine.state) d) (λ h a d. absurd (true-false (sym h ∙ n)))
        (λ y h a q d. one-rest (is_stopped stepped.world.machine.state) (is_paused stepped.world.machine.state) (not-held y q d))

    pauses : both (at_import (program_from w t) x) (arguments_read (program_from w t) x) ≡ true → stepped ≡ paused_as x (pause_in (program_from w t) x)
    pauses r =
        let n : at_import (program_from w t) x ≡ true = both_left (at_import (program_from w t) x) (arguments_read (program_from w t) x) r in
        let z : cause_in (program_from w t) (e ∷ es) x ≡ 0 = p.reads_only (e ∷ es) x n (both_right (at_import (program_from w t) x) (arguments_read (program_from w t) x) r) in
        step-cases w t bytes p e es x s i (λ h d. absurd (omega (arith, h, z))) (λ h a d. d) (λ y h a q d. absurd (true-false (sym n ∙ h)))

    pauses-only : is_paused stepped.world.machine.state ≡ true → both (at_import (program_from w t) x) (arguments_read (program_from w t) x) ≡ true
    unfolding stopped_by stopped is_paused
    pauses-only r =
        step-cases w t bytes p e es x s i (λ h d. absurd (true-false (sym r ∙ ap (λ (y : After). is_paused y.world.machine.state) d)))
        (λ h a d. both_true (at_import (program_from w t) x) (arguments_read (program_from w t) x) h (p.reads (e ∷ es) x h a))
        (λ y h a q d. absurd (true-false (sym r ∙ no-pause h)))

    stop-effect : 0 < cause_in (program_from w t) (e ∷ es) x → stepped ≡ stopped_by x (cause_in (program_from w t) (e ∷ es) x)
    stop-effect z = step-cases w t bytes p e es x s i (λ h d. d) (λ h a d. absurd (omega (arith, a, z))) (λ y h a q d. absurd (omega (arith, a, z)))

    step-sound : StepSound (program_from w t) (e ∷ es) x
    step-sound =
        record {
          whole = step-whole w t bytes p (length x.memory) x.memory (e ∷ es) x (runs e es x refl s i);
          counts = counts-one;
          goes = no_stop;
          unpaused = no-pause;
          pauses = pauses;
          pauses_only = pauses-only;
          stops = stop-effect;
          listed = p.listed (e ∷ es) x;
          full = p.full e es x i;
          full_only = p.full_only e es x i;
        }

  -- ---- going on

  module _ (e : Entry) (es : Ledger) (x : World) (q : Pause) (s : x.machine.state ≡ Paused q) (i : Invariant w t e es x) (h : List ℕ)
      (g : Asked (program_from w t) h x q) (v : ℕ) where
    abbrev running : World
    running = in_state_of Running x

    kept-running : Invariant w t e es running
    unfolding in_state_of
    kept-running = with-state w t e es x i Running x.memory refl

    abbrev AddressGood : Type 0
    AddressGood =
        (rows t running.machine.next).kind ≡ 7
        → word_good w (length running.memory) (address_of (program_from w t) running) ≡ true

    address : AddressGood
    unfolding in_state_of with_state
    address k = still-good (program_from w t) x h g.long g.read k

    -- it is no 37 and no 35
    resumed-as : resume_of (program_from w t) v x ≡ record { after = effected running (handed_in (program_from w t) v running); unpaused = false }
    unfolding resume_of on_pause guarded
    resumed-as =
        ap (λ (z : State). on_pause z (guarded x (effected running (handed_in (program_from w t) v running)) (resume_broken (program_from w t) x.machine x.stack (length x.memory))) x) s
        ∙ ap (λ (b : Broken). record { after = guarded x (effected running (handed_in (program_from w t) v running)) b; unpaused = false }) (p.gate_on e es x i g.import)

    -- what it leaves
    pub record Gone : Type 0 where
      pub world : World
      pub is : resume_of (program_from w t) v x ≡ record { after = record { world = world; count = 1; broken = No }; unpaused = false }
      pub good : GoodNow w t (length x.memory) (counted_in (rows t) x.machine.next (e ∷ es)) world
      pub free : is_held world.machine.state ≡ false

    pub gone : Gone
    unfolding effected Fine is_held is_stopped is_paused in_state_of with_state
    gone = by (handed_in (program_from w t) v running) refl
      where
        by : (f : Effect) → handed_in (program_from w t) v running ≡ f → Gone
        by (stops k) d = absurd (p.taken e es running k refl kept-running g.import address v d)
        by (leaves y) d =
            record {
              world = y;
              is = resumed-as ∙ ap (λ (f : Effect). record { after = effected running f; unpaused = false }) d;
              good = p.goes_on e es running y refl kept-running g.import address v d;
              free =
                  subst (Fine Any tt tt tt tt tt Going (λ u. refl)) d
                  (handed-in-fine Any tt tt tt tt tt Going (λ u. refl) (program_from w t) running refl v);
            }

    resume-sound : ResumeSound (program_from w t) v x
    unfolding is_held
    resume-sound =
        record {
          taken = ap (λ (c : Continued). c.unpaused) gone.is;
          whole = ap (λ (c : Continued). c.after.broken) gone.is;
          counts = ap (λ (c : Continued). c.after.count) gone.is;
          goes =
              ap (λ (c : Continued). is_stopped c.after.world.machine.state) gone.is
              ∙ one-no (is_stopped gone.world.machine.state) (is_paused gone.world.machine.state) gone.free;
        }

  -- ---- a good world is sound

  pub good-sound : (m : ℕ) (h : List ℕ) (es : Ledger) (x : World) → Good w t m h es x → Sound (program_from w t) es h x
  unfolding StateSound running_with with_state with_memory is_finished sum_of
  good-sound m h _ _ (runs e es x l s i) =
      record {
        finished = λ q. absurd (cons-some e es q);
        state = subst (StateSound (program_from w t) (e ∷ es) h x) (sym s) (λ b d. step-sound e es (running_with x b) refl (with-state w t e es x i Running b d));
        used = p.sums e es x i;
      }
  good-sound m h _ _ (stops_at e es x k n l s i g) =
      record {
        finished = λ q. absurd (cons-some e es q);
        state = subst (StateSound (program_from w t) (e ∷ es) h x) (sym s) g;
        used = p.sums e es x i;
      }
  good-sound m h _ _ (pauses_at e es x q l s i g) =
      record {
        finished = λ d. absurd (cons-some e es d);
        state = subst (StateSound (program_from w t) (e ∷ es) h x) (sym s) asked;
        used = p.sums e es x i;
      }
    where
      asked : PauseSound (program_from w t) h x q
      asked =
          record {
            long = g.long;
            at = both_true (at_import (program_from w t) x) (arguments_read (program_from w t) (running_with x h)) g.import g.read;
            asks = g.asks;
            going = λ v b d.
                resume-sound e es (with_memory x b) q s (other-bytes w t m e es x i b d) h
                (record { long = g.long ∙ sym d; import = g.import; read = g.read; asks = g.asks }) v;
          }
  good-sound m h _ _ (ends x v l s u) =
      record { finished = λ q. ap is_finished s; state = subst (StateSound (program_from w t) [] h x) (sym s) refl; used = u }

  -- ---- a stopped or paused world has no step

  module _ (x : World) (q : is_held x.machine.state ≡ true) where
    step-idle : step_of (program_from w t) x ≡ idle x No
    unfolding is_held is_stopped is_paused
    step-idle = go x.machine.state refl
      where
        go : (s : State) → x.machine.state ≡ s → step_of (program_from w t) x ≡ idle x No
        go Running e = absurd (true-false (sym q ∙ ap is_held e))
        go (Finished v) e = absurd (true-false (sym q ∙ ap is_held e))
        go (Stopped k n) e = step-stopped w t x k n e
        go (Paused a) e = step-paused w t x a e

    none-counted : (step_of (program_from w t) x).count ≡ 0
    unfolding idle
    none-counted = ap (λ (y : After). y.count) step-idle

    run-idle : (b : ℕ) → (run_of (program_from w t) b x).world ≡ x
    unfolding run_of idle
    run-idle zero = refl
    run-idle (suc b) =
        ap (λ (y : After). y.world) (if_eq-yes (step_of (program_from w t) x) (counting 1 (run_of (program_from w t) b (step_of (program_from w t) x).world)) none-counted ∙ step-idle)

    run-whole : (b : ℕ) → (run_of (program_from w t) b x).broken ≡ No
    unfolding run_of idle
    run-whole zero = refl
    run-whole (suc b) =
        ap (λ (y : After). y.broken) (if_eq-yes (step_of (program_from w t) x) (counting 1 (run_of (program_from w t) b (step_of (program_from w t) x).world)) none-counted ∙ step-idle)

    events-none : (b : ℕ) → events_of (program_from w t) b x ≡ []
    unfolding events_of
    events-none zero = refl
    events-none (suc b) = if_eq-yes [] (counted x.machine.next ∷ events_of (program_from w t) b (step_of (program_from w t) x).world) none-counted

  -- ---- invocations

  module _ (m : ℕ) where
    pub record InvocationGood (h : List ℕ) (l : CallResult) (es : Ledger) : Type 0 where
      pub good : Good w t m h (ledger_of (rows t) es l.events) l.world
      pub whole : l.broken ≡ No

    one-world : (x : World) → (run_of (program_from w t) 1 x).world ≡ (step_of (program_from w t) x).world
    unfolding run_of counting idle
    one-world x =
        elim (ℕ_discrete (step_of (program_from w t) x).count 0) [
          | yes z ↦ ap (λ (y : After). y.world) (if_eq-yes (step_of (program_from w t) x) (counting 1 (run_of (program_from w t) 0 (step_of (program_from w t) x).world)) z)
          | no z ↦ ap (λ (y : After). y.world) (if_eq-no (step_of (program_from w t) x) (counting 1 (run_of (program_from w t) 0 (step_of (program_from w t) x).world)) z)
        ]

    begun-good : (h name args : List ℕ) (es : Ledger) (x : World) → length x.memory ≡ m → start_of (program_from w t) bytes name args x ≡ Ok tt
        → InvocationGood h (called_on (program_from w t) bytes (start name args) x) es
    unfolding called_on start_events start_broke ledger_of fed
    begun-good h name args es x l q =
        record {
          good =
              subst (λ (a : Started). Good w t m h (ledger_of (rows t) es (start_events (started_function (program_from w t) bytes name args x) a)) (start_leaves (program_from w t) bytes name args x)) (sym q)
              (subst (λ (n : ℕ). Good w t n h (record { func = started_function (program_from w t) bytes name args x; call = none } ∷ []) (start_leaves (program_from w t) bytes name args x)) l
              (p.begun name args x q h));
          whole = ap start_broke q;
        }

    -- for any memory h of a world
    start-good : (h : World → List ℕ) (name args : List ℕ) (es : Ledger) (x : World) → length x.memory ≡ m → Good w t m (h x) es x
        → InvocationGood (h (start_leaves (program_from w t) bytes name args x)) (called_on (program_from w t) bytes (start name args) x) es
    unfolding called_on start_leaves begun_by start_events start_broke ledger_of
    start-good h name args es x l g = go (start_of (program_from w t) bytes name args x) refl
      where
        go : (a : Started) → start_of (program_from w t) bytes name args x ≡ a
            → InvocationGood (h (start_leaves (program_from w t) bytes name args x)) (called_on (program_from w t) bytes (start name args) x) es
        go (Ok _) q = begun-good (h (start_leaves (program_from w t) bytes name args x)) name args es x l q
        go (Err (Refused k)) q =
            record {
              good =
                  subst (λ (a : Started). Good w t m (h (begun_by (program_from w t) bytes name args x a)) (ledger_of (rows t) es (start_events (started_function (program_from w t) bytes name args x) a)) (begun_by (program_from w t) bytes name args x a)) (sym q) g;
              whole = ap start_broke q;
            }
        go (Err (Unsound b)) q = absurd (p.unbroken name args x b q)

    -- going on

    abbrev continued_by : ℕ → Continued → CallResult
    continued_by n c = record { world = c.after.world; events = resume_events n c.after.count; broken = c.after.broken; unpaused = c.unpaused }

    -- for any memory h of a world: 37
    refused-good : (h : World → List ℕ) (v : ℕ) (es : Ledger) (x : World) → Good w t m (h x) es x
        → resume_of (program_from w t) v x ≡ record { after = idle x No; unpaused = true }
        → InvocationGood (h (called_on (program_from w t) bytes (resume v) x).world) (called_on (program_from w t) bytes (resume v) x) es
    unfolding called_on resume_events idle ledger_of
    refused-good h v es x g q =
        subst (λ (c : Continued). InvocationGood (h c.after.world) (continued_by x.machine.next c) es) (sym q) (record { good = g; whole = refl })

    resume-good : (h : World → List ℕ) (v : ℕ) (es : Ledger) (x : World) → Good w t m (h x) es x
        → InvocationGood (h (called_on (program_from w t) bytes (resume v) x).world) (called_on (program_from w t) bytes (resume v) x) es
    unfolding called_on resume_events ledger_of fed is_paused
    resume-good h v _ _ (runs e es x l s i) = refused-good h v (e ∷ es) x (runs e es x l s i) (resume-refused (program_from w t) v x (ap is_paused s))
    resume-good h v _ _ (stops_at e es x k n l s i g) = refused-good h v (e ∷ es) x (stops_at e es x k n l s i g) (resume-refused (program_from w t) v x (ap is_paused s))
    resume-good h v _ _ (ends x u l s z) = refused-good h v [] x (ends x u l s z) (resume-refused (program_from w t) v x (ap is_paused s))
    resume-good h v _ _ (pauses_at e es x q l s i g) =
        subst (λ (c : Continued). InvocationGood (h c.after.world) (continued_by x.machine.next c) (e ∷ es)) (sym on.is)
        (record {
          good =
              good-any w t m on.world.memory _ on.world
              (subst (λ (n : ℕ). GoodNow w t n (counted_in (rows t) x.machine.next (e ∷ es)) on.world) l on.good) on.free (h on.world);
          whole = refl;
        })
      where
        on : Gone e es x q s i (h x) g v
        on = gone e es x q s i (h x) g v

    -- a call on a world that is good with its own memory
    call-now : (c : Call) (es : Ledger) (x : World) → length x.memory ≡ m → GoodNow w t m es x
        → InvocationGood (called_on (program_from w t) bytes c x).world.memory (called_on (program_from w t) bytes c x) es
    unfolding called_on
    call-now (start name args) es x l g = start-good (λ y. y.memory) name args es x l g
    call-now step es x l g =
        record {
          good = subst (λ (y : World). GoodNow w t m (ledger_of (rows t) es (events_of (program_from w t) 1 x)) y) (one-world x) (run-good w t bytes p m 1 es x g).good;
          whole = step-whole w t bytes p m x.memory es x g;
        }
    call-now (resume v) es x l g = resume-good (λ y. y.memory) v es x g
    call-now (run b) es x l g = record { good = (run-good w t bytes p m b es x g).good; whole = (run-good w t bytes p m b es x g).whole }

    run-held : (h : List ℕ) (es : Ledger) (x : World) → Good w t m h es x → is_held x.machine.state ≡ true → (b : ℕ)
        → Good w t m h (ledger_of (rows t) es (events_of (program_from w t) b x)) (run_of (program_from w t) b x).world
    unfolding ledger_of
    run-held h es x g q b =
        subst (λ (vs : List Event). Good w t m h (ledger_of (rows t) es vs) (run_of (program_from w t) b x).world) (sym (events-none x q b))
        (subst (λ (y : World). Good w t m h es y) (sym (run-idle x q b)) g)

    -- a call on a stopped or paused world
    call-held : (c : Call) (h : List ℕ) (es : Ledger) (x : World) → length x.memory ≡ m → Good w t m h es x → is_held x.machine.state ≡ true
        → InvocationGood h (called_on (program_from w t) bytes c x) es
    unfolding called_on
    call-held (start name args) h es x l g q = start-good (λ y. h) name args es x l g
    call-held step h es x l g q =
        record {
          good = subst (λ (y : World). Good w t m h (ledger_of (rows t) es (events_of (program_from w t) 1 x)) y) (one-world x) (run-held h es x g q 1);
          whole = step-whole w t bytes p m h es x g;
        }
    call-held (resume v) h es x l g q = resume-good (λ y. h) v es x g
    call-held (run b) h es x l g q = record { good = run-held h es x g q b; whole = run-whole x q b }

    invocation-good : (c : Invocation) (h : List ℕ) (es : Ledger) (x : World) → length c.memory ≡ m → Good w t m h es x
        → InvocationGood (stop_memory_in h x (invoked_on (program_from w t) bytes c x).world) (invoked_on (program_from w t) bytes c x) es
    unfolding invoked_on stop_memory_in if_true
    invocation-good c h es x l g = by (is_held x.machine.state) refl
      where
        found : World
        found = record { machine = x.machine; stack = x.stack; memory = c.memory }

        left : World
        left = (called_on (program_from w t) bytes c.call found).world

        memory-of : Bool → List ℕ
        memory-of b = if_true (both b (is_held left.machine.state)) h left.memory

        on-found : Good w t m h es found
        on-found = good-bytes w t m h es x g c.memory l

        going : InvocationGood h (called_on (program_from w t) bytes c.call found) es → is_held left.machine.state ≡ false
            → InvocationGood left.memory (called_on (program_from w t) bytes c.call found) es
        going r e = record { good = good-any w t m h _ left r.good e left.memory; whole = r.whole }

        by : (b : Bool) → is_held x.machine.state ≡ b → InvocationGood (memory-of (is_held x.machine.state)) (called_on (program_from w t) bytes c.call found) es
        by true q =
            subst (λ (b : Bool). InvocationGood (memory-of b) (called_on (program_from w t) bytes c.call found) es) (sym q)
            (either_true (λ (r : List ℕ). InvocationGood r (called_on (program_from w t) bytes c.call found) es) (is_held left.machine.state) h left.memory
            (λ e. call-held c.call h es found l on-found q)
            (λ e. going (call-held c.call h es found l on-found q) e))
        by false q =
            subst (λ (b : Bool). InvocationGood (memory-of b) (called_on (program_from w t) bytes c.call found) es) (sym q)
            (call-now c.call es found l (good-any w t m h es found on-found q c.memory))

    -- ---- lists of invocations

    pub record ListGood (h : List ℕ) (es : Ledger) (x : World) (cs : List Invocation) : Type 0 where
      pub good : Good w t m (stop_memory (program_from w t) bytes h x cs) (ledger_of (rows t) es (events_after (program_from w t) bytes x cs)) (world_after (program_from w t) bytes x cs)
      pub whole : NoneBroken (refusals_after (program_from w t) bytes x cs)

    pub list-good : (cs : List Invocation) (h : List ℕ) (es : Ledger) (x : World) → AllLong m cs → Good w t m h es x → ListGood h es x cs
    unfolding AllLong NoneBroken events_after world_after refusals_after ledger_of stop_memory
    list-good [] h es x a g = record { good = g; whole = tt }
    list-good (c ∷ cs) h es x (l, a) g =
        behind (invocation-good c h es x l g) (list-good cs after (ledger_of (rows t) es (invoked_on (program_from w t) bytes c x).events) (invoked_on (program_from w t) bytes c x).world a (invocation-good c h es x l g).good)
      where
        after : List ℕ
        after = stop_memory_in h x (invoked_on (program_from w t) bytes c x).world

        behind : InvocationGood after (invoked_on (program_from w t) bytes c x) es → ListGood after (ledger_of (rows t) es (invoked_on (program_from w t) bytes c x).events) (invoked_on (program_from w t) bytes c x).world cs → ListGood h es x (c ∷ cs)
        behind i r =
            record {
              good =
                  subst (λ (us : Ledger). Good w t m (stop_memory (program_from w t) bytes after (invoked_on (program_from w t) bytes c x).world cs) us (world_after (program_from w t) bytes (invoked_on (program_from w t) bytes c x).world cs))
                  (sym (ledger-both t es (invoked_on (program_from w t) bytes c x).events (events_after (program_from w t) bytes (invoked_on (program_from w t) bytes c x).world cs))) r.good;
              whole = (i.whole, r.whole);
            }

  -- ---- the demand

  pub demand-holds : Demand (program_from w t) bytes
  unfolding Demand started_by NoneBroken events_after world_after refusals_after invoked_on start_of start_by start_answer stop_memory
  demand-holds x name args cs e a = behind (begun-good (length x.memory) after name args [] (with_bytes w t 0 x x.memory) refl e)
    where
      first : Invocation
      first = record { call = start name args; memory = x.memory }

      after : List ℕ
      after = stop_memory_in x.memory x (invoked_on (program_from w t) bytes first x).world

      behind : InvocationGood (length x.memory) after (invoked_on (program_from w t) bytes first x) []
          → Sound (program_from w t) (ledger_of (rows t) [] (events_after (program_from w t) bytes x (first ∷ cs)))
          (stop_memory (program_from w t) bytes x.memory x (first ∷ cs)) (world_after (program_from w t) bytes x (first ∷ cs))
          × NoneBroken (refusals_after (program_from w t) bytes x (first ∷ cs))
      behind i = (
        subst (λ (us : Ledger). Sound (program_from w t) us (stop_memory (program_from w t) bytes after (invoked_on (program_from w t) bytes first x).world cs) (world_after (program_from w t) bytes (invoked_on (program_from w t) bytes first x).world cs))
            (sym (ledger-both t [] (invoked_on (program_from w t) bytes first x).events (events_after (program_from w t) bytes (invoked_on (program_from w t) bytes first x).world cs)))
            (good-sound (length x.memory) _ _ _ (list-good (length x.memory) cs after _ _ a i.good).good),
        (i.whole, (list-good (length x.memory) cs after _ _ a i.good).whole),
      )
