-- The ways through a step and a run.
-- Assumes nothing.
use Rattle.std.proofs.Common.{Option, Some, None}
use mathlib.Core.Path.{◌≡◌, refl, sym, ◌∙◌, ap, subst}
use mathlib.Core.Bool.{Bool, true, false}
use mathlib.Core.List.{List, []}
use Prim.Native.Nat.{ℕ, zero, suc, ◌+◌, ◌-◌, ◌*◌, ◌<◌, ◌≤◌}
use native.Mathlib.Omega.{arith}
use lib.ListN.{length}
use lib.Dec.{eqb}
use lib.Dec.{ltb}
use borrow.Author.Tests.{eq-eqb, ne_eqb, lt-ltb, le-ltb, ltb-false}
use Rattle.prog_tables.specs.Tests.{one_of}
use Rattle.base_prelude.specs.Choice.{if_lt, if_eq, if_true}
use Rattle.base_prelude.proofs.Choice.{true-false, if_eq-yes, if_eq-no, if_true-yes, if_true-no}
use Rattle.base_limits.specs.declared.Width.TheVariants.{Bits32}
use Rattle.base_limits.specs.declared.State.{State}
use Rattle.base_limits.specs.declared.State.TheVariants.{Running, Finished, Stopped, Paused}
use Rattle.base_limits.specs.declared.Machine.{Machine}
use Rattle.base_limits.specs.Record.{moved_to, of_parts}
use Rattle.prog_tables.specs.Statement.{Row, row_at}
use Rattle.prog_tables.specs.Program.{Program, program_from, lent_program}
use Rattle.prog_tables.specs.Label.{label_at}
use Rattle.prog_tables.specs.Faults.{count_fault}
use Rattle.vm_counts.proofs.Cases.{count-any}
use Rattle.vm_guard.specs.Guard.{within_broken}
use Rattle.vm_guard.specs.Passed.{Passed}
use Rattle.vm_guard.proofs.Passed.{passed, step-broken, within-lent}
use Rattle.vm_definitions.proofs.Seen.{effect-seen, statement-lent}
use Rattle.vm_definitions.specs.Broken.{or_else, step_broken}
use Rattle.vm_definitions.specs.Frames.{is_return, importing, leaves_frame, leaves_good}
use Rattle.vm_definitions.specs.Step.{World, After, idle, guarded, in_state, effected, counting, effect_of, pausing, statement_of, step_of, run_of}
use Rattle.vm_definitions.specs.Lent.{tables_of, world, left}
use Rattle.vm_definitions.specs.declared.Outcome.{Outcome}
use Rattle.vm_definitions.specs.declared.Broken.{Broken}
use Rattle.vm_definitions.specs.declared.Broken.TheVariants.{No, At, Somewhere}
use Rattle.vm_calls.specs.Outcomes as outcomes
use Rattle.vm_statements.specs.Ready.{Ready}
use Rattle.vm_guard.specs.FrameInUse.{good_frame_size}
use Rattle.vm_quick_statements.specs.PlainRun.{ended_with, plain_run_of}
use Rattle.vm_quick_statements.specs.declared.PlainRun.{PlainRun}
use Rattle.vm_quick_statements.proofs.Right.{InFrame}
use Rattle.vm_quick_calls.specs.Transfers.{to_frame, Transferred, transferred, transfer_of}
use Rattle.vm_quick_calls.specs.declared.Transfer.{Transfer}
use Rattle.vm_run.specs.Steps.{usable_size, after, end_by, plain_run_end, steps_in_frame_by, steps_in_frame, some_steps}
use Rattle.vm_run.proofs.One.{one-step}
use Rattle.vm_run.proofs.Several.{running-is, count_none, count_add, usable-good, Several, several}
use Rattle.vm_calls.specs.Outcomes.{given_back}
use Rattle.vm_run.specs.Within.{is_running, counts_broken, taken_step, within_step, within_run}
use Rattle.prog_tables.proofs.Each.{one-no}

-- ---- a running record's step

-- m bytes of memory
pub take-passed : (t : List ℕ) (c : ℕ) (lw : List ℕ) (lc d : ℕ) (r : Machine) (st : List ℕ) (m : ℕ) (b : Broken) → b ≡ within_broken (lent_program t c lw lc d) r st m → b ≡ No
    → Passed (lent_program t c lw lc d) r st m
take-passed t c lw lc d r st m b e h = passed t c lw lc d r st m (sym e ∙ h)

leaves-return : (r : Row) → is_return r ≡ true → leaves_frame r ≡ true
unfolding leaves_frame
leaves-return r e = rw e

pub obey-ready : (t : List ℕ) (c : ℕ) (lw : List ℕ) (lc d : ℕ) (r : Machine) (st : List ℕ) (m : ℕ) (b : Bool) → Passed (lent_program t c lw lc d) r st m
    → b ≡ importing (row_at t r.next) → b ≡ false → Ready (row_at t) c r st m
obey-ready t c lw lc d r st m b p e h =
    record {
      within = p.within;
      own = sym e ∙ h;
      listed = p.listed;
      callee = p.callee;
      leaves = λ q. p.leaves (leaves-return (row_at t r.next) q);
      stack = p.stack;
      memory = p.memory;
    }

module _ (t : List ℕ) (c : ℕ) (lw : List ℕ) (lc d : ℕ) (r : Machine) (st m : List ℕ) (b : Bool) (e : b ≡ importing (row_at t r.next)) where
  pub obey-asks : b ≡ true → importing (row_at t r.next) ≡ true
  obey-asks h = sym e ∙ h

  pub obey-import : (o : Outcome) → b ≡ true → left o st m ≡ pausing (lent_program t c lw lc d) (world r st m) → left o st m ≡ statement_of (lent_program t c lw lc d) (world r st m)
  unfolding statement_of if_true
  obey-import o h q = rw (← e, h) q

  pub obey-own : (o : Outcome) (st' m' : List ℕ) → b ≡ false → left o st' m' ≡ outcomes.after effect_of t c r st m → left o st' m' ≡ statement_of (lent_program t c lw lc d) (world r st m)
  unfolding statement_of if_true
  obey-own o st' m' h q =
      rw (← e, h) (q ∙ ap (effected (world r st m)) (sym (effect-seen (lent_program t c lw lc d) (label_at [] []) 0 0 false false (world r st m))))

pub ruleset obeying = (obey-import, obey-own)

module _ (t : List ℕ) (c : ℕ) (lw : List ℕ) (lc d : ℕ) (r : Machine) (st m : List ℕ) (b : Broken) (e : b ≡ within_broken (lent_program t c lw lc d) r st (length m)) where
  pub take_on : (o : Outcome) (st' m' : List ℕ) → b ≡ No → left o st' m' ≡ statement_of (lent_program t c lw lc d) (world r st m) → left o st' m' ≡ taken_step t c lw lc d (world r st m)
  unfolding taken_step guarded
  take_on o st' m' h q = rw (← e, h) q

  pub take_at : (i : ℕ) (o : Outcome) → b ≡ At i → o ≡ given_back r (At i) → left o st m ≡ taken_step t c lw lc d (world r st m)
  unfolding taken_step guarded idle
  take_at i o h q = rw (← e, h, q)

  pub take-nowhere : (o : Outcome) → b ≡ Somewhere → o ≡ given_back r Somewhere → left o st m ≡ taken_step t c lw lc d (world r st m)
  unfolding taken_step guarded idle
  take-nowhere o h q = rw (← e, h, q)

pub ruleset taking = (take_on, take_at, take-nowhere)

-- ---- a step over tables whose counts are good

module _ (t : List ℕ) (c : ℕ) (lw : List ℕ) (lc d : ℕ) (r : Machine) (st m : List ℕ) (b : Bool) (e : b ≡ is_running r.state) where
  pub within_on : (u : Machine) (o : Outcome) (st' m' : List ℕ) → b ≡ true → u ≡ r → left o st' m' ≡ taken_step t c lw lc d (world u st m)
      → left o st' m' ≡ within_step t c lw lc d (world r st m)
  unfolding within_step if_true
  within_on u o st' m' h v q = rw (← e, h) (q ∙ ap (λ (z : Machine). taken_step t c lw lc d (world z st m)) v)

  pub within-idle : (o : Outcome) → b ≡ false → o ≡ given_back r No → left o st m ≡ within_step t c lw lc d (world r st m)
  unfolding within_step if_true idle
  within-idle o h q = rw (← e, h, q)

pub ruleset within = (within_on, within-idle)

-- ---- several steps at once

module _ (f : ℕ → Row) (c m : ℕ) (r : Machine) (st : List ℕ) (b : Bool) (e : b ≡ is_running r.state) where
  pub usable-on : (z : ℕ) → b ≡ true → z ≡ good_frame_size f c m r st → z ≡ usable_size f c m r st
  unfolding usable_size if_true
  usable-on z h q = rw (← e, h) q

  pub usable-off : b ≡ false → 0 ≡ usable_size f c m r st
  unfolding usable_size if_true
  usable-off h = rw (← e, h)

pub ruleset usable = (usable-on, usable-off)

-- the parts of a record that runs, and of one that keeps running
pub as-running : (r q : Machine) → r.state ≡ Running → q ≡ of_parts Running r.next r.frame r.used r.top → q ≡ r
unfolding of_parts
as-running r q s e = e ∙ ap (λ (z : State). of_parts z r.next r.frame r.used r.top) (sym s)

pub state-running : (s : State) (b : Bool) → b ≡ is_running s → b ≡ true → s ≡ Running
state-running s b e h = running-is s (sym e ∙ h)

pub keeps-running : (r q : Machine) (n frame used top : ℕ) → r.state ≡ Running → q ≡ of_parts Running n frame used top → q ≡ moved_to r n frame used top
unfolding of_parts moved_to
keeps-running r q n frame used top s e = rw s e

module _ (t : List ℕ) (c : ℕ) (lw : List ℕ) (lc g d size : ℕ) (r : Machine) (k : ℕ) (st m : List ℕ) (y : Option Transfer) (st' : List ℕ)
    (e : transferred y st' ≡ transfer_of t c lw lc g d size st r.frame r.used m r.next r.top) where
  by-transfer : plain_run_end t c lw lc d g size k (world r st m) ≡ end_by t c lw lc d k (world r st m) y st'
  unfolding plain_run_end
  by-transfer = ap (λ (x : Transferred). end_by t c lw lc d k (world r st m) x.move x.stack) (sym e)

  pub end-transfers : (next frame used top : ℕ) (q : Machine) → y ≡ to_frame next frame used top → q ≡ moved_to r next frame used top
      → left (record { machine = q; count = k + 1; broken = No }) st' m ≡ plain_run_end t c lw lc d g size k (world r st m)
  unfolding end_by
  end-transfers next frame used top q h p = sym (by-transfer ∙ rw (h, p))

  pub end-rests : y ≡ None → 0 < k → left (record { machine = r; count = k; broken = No }) st' m ≡ plain_run_end t c lw lc d g size k (world r st m)
  unfolding end_by if_lt
  end-rests h l = sym (by-transfer ∙ rw (h, lt-ltb 0 k l))

  running-step : r.state ≡ Running → within_step t c lw lc d (world r st' m) ≡ taken_step t c lw lc d (world r st' m)
  unfolding within_step is_running if_true
  running-step s = rw s

  pub end-steps : (u : Machine) (o : Outcome) (st'' m'' : List ℕ) → r.state ≡ Running → u ≡ r → y ≡ None → k ≤ 0 → left o st'' m'' ≡ taken_step t c lw lc d (world u st' m)
      → left o st'' m'' ≡ plain_run_end t c lw lc d g size k (world r st m)
  unfolding end_by if_lt
  end-steps u o st'' m'' s v h l q =
      sym (by-transfer ∙ rw (h, le-ltb 0 k l) (running-step s ∙ ap (λ (z : Machine). taken_step t c lw lc d (world z st' m)) (sym v) ∙ sym q))

pub ruleset plain-ends = (end-transfers, end-rests, end-steps)

module _ (t : List ℕ) (c : ℕ) (lw : List ℕ) (lc d size budget : ℕ) (r : Machine) (st m : List ℕ) (g : ℕ) (x : PlainRun) (st' m' : List ℕ) (q : Machine) (i : g ≡ (row_at t r.next).func)
    (e : ended_with x st' m' ≡ plain_run_of t c g d size r.frame budget st m r.next r.top) (h : q ≡ moved_to r x.next r.frame r.used x.top) where
  by-plain : steps_in_frame t c lw lc d size budget (world r st m)
      ≡ if_lt x.count budget (plain_run_end t c lw lc d g size x.count (world q st' m')) (after (world q st' m') x.count)
  unfolding steps_in_frame steps_in_frame_by
  by-plain =
      ap (λ (j : ℕ). steps_in_frame_by t c lw lc d j size budget r (plain_run_of t c j d size r.frame budget st m r.next r.top)) (sym i)
      ∙ ap (steps_in_frame_by t c lw lc d g size budget r) (sym e)
      ∙ ap (λ (z : Machine). if_lt x.count budget (plain_run_end t c lw lc d g size x.count (world z st' m')) (after (world z st' m') x.count)) (sym h)

  pub in-frame-ends : (o : Outcome) (st'' m'' : List ℕ) → x.count < budget → left o st'' m'' ≡ plain_run_end t c lw lc d g size x.count (world q st' m')
      → left o st'' m'' ≡ steps_in_frame t c lw lc d size budget (world r st m)
  unfolding if_lt
  in-frame-ends o st'' m'' l p = sym (by-plain ∙ rw (lt-ltb _ _ l) (sym p))

  pub in-frame-whole : budget ≤ x.count → left (record { machine = q; count = x.count; broken = No }) st' m' ≡ steps_in_frame t c lw lc d size budget (world r st m)
  unfolding if_lt
  in-frame-whole l = sym (by-plain ∙ rw (le-ltb _ _ l))

pub ruleset in_frame = (in-frame-ends, in-frame-whole)

-- the record that a plain run leaves is running
pub moved-running : (r q : Machine) (n top : ℕ) → q ≡ moved_to r n r.frame r.used top → r.state ≡ Running → q.state ≡ Running
unfolding moved_to
moved-running r q n top e s = rw e s

-- it stands in the same frame
pub moved-room : (r q : Machine) (n top size : ℕ) (st st' : List ℕ) → q ≡ moved_to r n r.frame r.used top → r.frame + size ≤ length st → length st' ≡ length st → q.frame + size ≤ length st'
unfolding moved_to
moved-room r q n top size st st' e l h = rw (e, h) l

module _ (t : List ℕ) (c : ℕ) (lw : List ℕ) (lc d budget : ℕ) (r : Machine) (st m : List ℕ) (z : ℕ) (e : z ≡ usable_size (row_at t) c (length m) r st) where
  pub some-exact : (o : Outcome) (st' m' : List ℕ) → z ≡ 0 → left o st' m' ≡ within_step t c lw lc d (world r st m) → left o st' m' ≡ some_steps t c lw lc d budget (world r st m)
  unfolding some_steps if_eq
  some-exact o st' m' h q = rw (← e, h) q

  pub some-in-frame : (o : Outcome) (st' m' : List ℕ) → (z ≡ 0 → ⊥) → left o st' m' ≡ steps_in_frame t c lw lc d z budget (world r st m) → left o st' m' ≡ some_steps t c lw lc d budget (world r st m)
  unfolding some_steps if_eq
  some-in-frame o st' m' h q = rw (← e, ne_eqb z 0 h) q

  module _ (h : z ≡ 0 → ⊥) where
    usable-in-frame : InFrame t c (row_at t r.next).func z r st m
    usable-in-frame = usable-good t c r st m z (sym e) h

    pub usable-running : r.state ≡ Running
    usable-running = usable-in-frame.state

    pub usable-room : r.frame + z ≤ length st
    usable-room = let x = usable-in-frame in omega (arith, x.ends, x.room)

    pub usable-stack : length st ≤ 16384
    usable-stack = usable-in-frame.stack

    pub usable-memory : length m ≤ 65536
    usable-memory = usable-in-frame.memory

pub ruleset somes = (some-exact, some-in-frame)

-- ---- a run over tables whose counts are good

module _ (t : List ℕ) (c : ℕ) (lw : List ℕ) (lc d : ℕ) where
  -- what is left to do gives the whole answer
  pub record RunSoFar (budget : ℕ) (x : World) (r : Machine) (st m : List ℕ) (count : ℕ) : Type 0 where
    pub below : count ≤ budget
    pub small : c < 4294967296
    pub stack : length st ≡ length x.stack
    pub memory : length m ≡ length x.memory
    pub rest : counting count (within_run t c lw lc d (budget - count) (world r st m)) ≡ within_run t c lw lc d budget x

  -- a record that is not running is given back
  held-run : (n : ℕ) (y : World) → is_running y.machine.state ≡ false → within_run t c lw lc d n y ≡ idle y No
  unfolding within_run within_step idle if_true if_eq
  held-run zero y h = refl
  held-run (suc n) y h = rw h

  pub running_none : (budget : ℕ) (r : Machine) (st m : List ℕ) → c < 4294967296 → RunSoFar budget (world r st m) r st m 0
  running_none budget r st m l =
      let z : budget - 0 ≡ budget = omega arith in
      record {
        below = omega arith;
        small = l;
        stack = refl;
        memory = refl;
        rest = count_none (within_run t c lw lc d (budget - 0) (world r st m)) ∙ ap (λ (n : ℕ). within_run t c lw lc d n (world r st m)) z;
      }

  module _ (budget : ℕ) (x : World) (r : Machine) (st m : List ℕ) (count : ℕ) (h : RunSoFar budget x r st m count) where
    module _ (o : Outcome) (st' m' : List ℕ) (l : count < budget) (q : left o st' m' ≡ some_steps t c lw lc d (budget - count) (world r st m)) where
      taken : Several t c lw lc d (budget - count) (world r st m) (left o st' m')
      taken = subst (Several t c lw lc d (budget - count) (world r st m)) (sym q) (several t c lw lc d h.small (budget - count) r st m (omega (arith, l)))

      pub running-low : count + o.count ≤ budget
      running-low = omega (arith, taken.bound, l)

      more : (o.count ≡ 0 → ⊥) → length st' ≡ length st → length m' ≡ length m → RunSoFar budget x o.machine st' m' (count + o.count)
      more n ls lm =
          let z : budget - (count + o.count) ≡ budget - count - o.count = omega (arith, l) in
          record {
            below = running-low;
            small = h.small;
            stack = ls ∙ h.stack;
            memory = lm ∙ h.memory;
            rest =
                ap (λ (b : ℕ). counting (count + o.count) (within_run t c lw lc d b (world o.machine st' m'))) z
                ∙ count_add count o.count (within_run t c lw lc d (budget - count - o.count) (world o.machine st' m'))
                ∙ ap (counting count) (sym (taken.runs n))
                ∙ h.rest;
          }

      pub running-ends : o.count ≡ 0 → left (record { machine = o.machine; count = count; broken = o.broken }) st' m' ≡ within_run t c lw lc d budget x
      unfolding counting
      running-ends n =
          let z : count ≡ count + o.count = omega (arith, n) in
          ap (λ (i : ℕ). record { world = world o.machine st' m'; count = i; broken = o.broken }) z
          ∙ ap (counting count) (sym (taken.stops n))
          ∙ h.rest

      pub running_more : (w : Machine) → w ≡ o.machine → (o.count ≡ 0 → ⊥) → length st' ≡ length st → length m' ≡ length m → RunSoFar budget x w st' m' (count + o.count)
      running_more w e n ls lm = subst (λ (v : Machine). RunSoFar budget x v st' m' (count + o.count)) (sym e) (more n ls lm)

      pub running-held : (b : Bool) → b ≡ is_running o.machine.state → b ≡ false → (o.count ≡ 0 → ⊥) → length st' ≡ length st → length m' ≡ length m → left (record { machine = o.machine; count = count + o.count; broken = No }) st' m' ≡ within_run t c lw lc d budget x
      unfolding counting idle
      running-held b e q n ls lm =
          let s : count + o.count ≡ count + o.count + 0 = omega arith in
          ap (λ (i : ℕ). record { world = world o.machine st' m'; count = i; broken = No }) s
          ∙ ap (counting (count + o.count)) (sym (held-run (budget - (count + o.count)) (world o.machine st' m') (sym e ∙ q)))
          ∙ (more n ls lm).rest

    pub running-done : budget ≤ count → left (record { machine = r; count = count; broken = No }) st m ≡ within_run t c lw lc d budget x
    unfolding counting within_run idle
    running-done l =
        let z : budget - count ≡ 0 = omega (arith, l) in
        let s : count ≡ count + 0 = omega arith in
        ap (λ (i : ℕ). record { world = world r st m; count = i; broken = No }) s
        ∙ ap (λ (n : ℕ). counting count (within_run t c lw lc d n (world r st m))) (sym z)
        ∙ h.rest

pub ruleset running = (running_none, running_more, running-held, running-ends, running-done)

-- ---- the counts of the tables

module _ (t : List ℕ) (c : ℕ) (lw : List ℕ) (lc d : ℕ) (r : Machine) (st : List ℕ) (m : ℕ) (v : Bool) (e : v ≡ ltb (length t) (c * 27)) where
  pub counts_past : v ≡ true → Somewhere ≡ counts_broken t c lw lc d r st m
  unfolding counts_broken if_true
  counts_past h = rw (← e, h)

  module _ (b : Broken) (h : v ≡ false) (q : b ≡ within_broken (lent_program t c lw lc d) r st m) where
    pub counts-none : b ≡ No → Somewhere ≡ counts_broken t c lw lc d r st m
    unfolding counts_broken if_true or_else
    counts-none o = rw (← e, h, ← q, o)

    pub counts-at : (i : ℕ) → b ≡ At i → At i ≡ counts_broken t c lw lc d r st m
    unfolding counts_broken if_true or_else
    counts-at i o = rw (← e, h, ← q, o)

    pub counts-somewhere : b ≡ Somewhere → Somewhere ≡ counts_broken t c lw lc d r st m
    unfolding counts_broken if_true or_else
    counts-somewhere o = rw (← e, h, ← q, o)

pub ruleset counts-ways = (counts_past, counts-none, counts-at, counts-somewhere)

-- a refusal that is some refusal changes nothing
guarded-broken : (x : World) (f : After) (a : Bool) (y : Broken)
    → guarded x f (if_true a Somewhere (or_else y Somewhere)) ≡ idle x (if_true a Somewhere (or_else y Somewhere))
unfolding guarded if_true or_else
guarded-broken x f true y = refl
guarded-broken x f false No = refl
guarded-broken x f false (At i) = refl
guarded-broken x f false Somewhere = refl

counts-bad : (a b : Bool) (x : Broken) → one_of a b ≡ true → if_true a Somewhere (or_else x (if_true b Somewhere No)) ≡ if_true a Somewhere (or_else x Somewhere)
unfolding if_true
counts-bad true b x e = refl
counts-bad false true x e = refl
counts-bad false false x e = true-false (sym e)

or-none : (x : Broken) → or_else x No ≡ x
unfolding or_else
or-none No = refl
or-none (At i) = refl
or-none Somewhere = refl

counts-fine : (a b : Bool) (x : Broken) → one_of a b ≡ false → if_true a Somewhere (or_else x (if_true b Somewhere No)) ≡ x
unfolding if_true
counts-fine true b x e = true-false e
counts-fine false true x e = true-false e
counts-fine false false x e = or-none x

in-state : (s : State) (y z : After) → in_state s y z ≡ if_true (is_running s) y z
unfolding in_state is_running if_true
in-state Running y z = refl
in-state (Finished v) y z = refl
in-state (Stopped k i) y z = refl
in-state (Paused q) y z = refl

module _ (t : List ℕ) (c : ℕ) (l : List ℕ) (k : ℕ) (names : List ℕ) (d : ℕ) where
  abbrev T : Program
  T = program_from Bits32 (tables_of t c l k names d)

  count_of : {b : Bool} → count_fault T ≡ b → one_of T.statements_past T.labels_past ≡ b
  unfolding count_fault
  count_of e = e

  -- a step where the counts are good
  step_is : (x : World) → count_fault T ≡ false → step_of T x ≡ within_step t c l k d x
  unfolding step_of within_step taken_step if_true
  step_is x e =
      in-state x.machine.state _ _
      ∙ ap (λ (b : Broken). if_true (is_running x.machine.state) (guarded x (statement_of T x) b) (idle x No))
      (step-broken T x.machine x.stack (length x.memory)
      ∙ counts-fine T.statements_past T.labels_past (within_broken T x.machine x.stack (length x.memory)) (count_of e)
      ∙ within-lent t c l k names d x.machine x.stack (length x.memory))
      ∙ ap
      (λ (f : After). if_true (is_running x.machine.state) (guarded x f (within_broken (lent_program t c l k d) x.machine x.stack (length x.memory))) (idle x No))
      (statement-lent t c l k names d x)

  run_is : (b : ℕ) (x : World) → count_fault T ≡ false → run_of T b x ≡ within_run t c l k d b x
  unfolding run_of within_run
  run_is zero x e = refl
  run_is (suc b) x e =
      ap (λ (y : After). if_eq y.count 0 y (counting 1 (run_of T b y.world))) (step_is x e)
      ∙ ap (λ (z : After). if_eq (within_step t c l k d x).count 0 (within_step t c l k d x) (counting 1 z)) (run_is b (within_step t c l k d x).world e)

  -- a step that counts nothing ends the run
  run-still : (b : ℕ) (x : World) → (step_of T x).count ≡ 0 → (b ≡ 0 → ⊥) → run_of T b x ≡ step_of T x
  unfolding run_of
  run-still zero x e n = absurd (n refl)
  run-still (suc b) x e n = if_eq-yes (step_of T x) (counting 1 (run_of T b (step_of T x).world)) e

  -- all rows lie in their table
  pub rows_fit : (f : Bool) → f ≡ count_fault (program_from Bits32 (tables_of t c l k names 0)) → f ≡ false → c * 27 ≤ length t
  unfolding count_fault
  rows_fit f g i = ltb-false (length t) (c * 27) (one-no (ltb (length t) (c * 27)) _ (sym g ∙ i))

  module _ (r : Machine) (st m : List ℕ) (b : Bool) (e : b ≡ is_running r.state) where
    pub step-idle : (o : Outcome) → b ≡ false → o ≡ given_back r No → left o st m ≡ step_of T (world r st m)
    unfolding step_of idle
    step-idle o h q =
        ap (λ (z : Outcome). left z st m) q ∙ sym (in-state r.state _ _ ∙ if_true-no _ (idle (world r st m) No) (sym e ∙ h))

    module _ (f : Bool) (g : f ≡ count_fault (program_from Bits32 (tables_of t c l k names 0))) (h : b ≡ true) where
      fault : count_fault T ≡ f
      fault = sym (g ∙ count-any t c l k names d)

      pub step-fault : (o : Outcome) → f ≡ true → o ≡ given_back r (counts_broken t c l k d r st (length m)) → left o st m ≡ step_of T (world r st m)
      unfolding step_of idle counts_broken
      step-fault o i q =
          ap (λ (z : Outcome). left z st m) q
          ∙ sym (guarded-broken (world r st m) (statement_of T (world r st m)) T.statements_past (within_broken (lent_program t c l k d) r st (length m)))
          ∙ ap (λ (b : Broken). guarded (world r st m) (statement_of T (world r st m)) (if_true T.statements_past Somewhere (or_else b Somewhere)))
          (sym (within-lent t c l k names d r st (length m)))
          ∙ ap (guarded (world r st m) (statement_of T (world r st m)))
          (sym
          (step-broken T r st (length m)
          ∙ counts-bad T.statements_past T.labels_past (within_broken T r st (length m)) (count_of (fault ∙ i))))
          ∙ sym (in-state r.state _ _ ∙ if_true-yes _ (idle (world r st m) No) (sym e ∙ h))

      pub run-fault : (budget : ℕ) (o : Outcome) → (budget ≡ 0 → ⊥) → f ≡ true → o ≡ given_back r (counts_broken t c l k d r st (length m)) → left o st m ≡ run_of T budget (world r st m)
      run-fault budget o n i q =
          step-fault o i q ∙ sym (run-still budget (world r st m) (ap (λ (y : After). y.count) (sym (step-fault o i q)) ∙ ap (λ (z : Outcome). z.count) q) n)

      pub run-within : (budget : ℕ) (u : Machine) (o : Outcome) (st' m' : List ℕ) → f ≡ false → u ≡ r → left o st' m' ≡ within_run t c l k d budget (world u st m)
          → left o st' m' ≡ run_of T budget (world r st m)
      run-within budget u o st' m' i v q =
          q ∙ ap (λ (z : Machine). within_run t c l k d budget (world z st m)) v ∙ sym (run_is budget (world r st m) (fault ∙ i))

    pub run-idle : (budget : ℕ) (o : Outcome) → (budget ≡ 0 → ⊥) → b ≡ false → o ≡ given_back r No → left o st m ≡ run_of T budget (world r st m)
    run-idle budget o n h q =
        step-idle o h q ∙ sym (run-still budget (world r st m) (ap (λ (y : After). y.count) (sym (step-idle o h q)) ∙ ap (λ (z : Outcome). z.count) q) n)

  pub run_none : (budget : ℕ) (r : Machine) (st m : List ℕ) (o : Outcome) → budget ≡ 0 → o ≡ given_back r No → left o st m ≡ run_of T budget (world r st m)
  unfolding run_of idle
  run_none budget r st m o e q = rw (e, q)

  pub step_run : (r : Machine) (st m : List ℕ) (o : Outcome) (st' m' : List ℕ) → left o st' m' ≡ run_of T 1 (world r st m) → left o st' m' ≡ step_of T (world r st m)
  step_run r st m o st' m' q = q ∙ one-step T (world r st m)

pub ruleset runs = (run_none, run-idle, run-fault, run-within)
