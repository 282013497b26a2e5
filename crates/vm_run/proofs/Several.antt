-- Several steps taken at once are steps of a run.
-- Assumes nothing.
use Rattle.std.proofs.Common.{Option, Some, None}
use mathlib.Core.Path.{◌≡◌, refl, sym, ◌∙◌, ap, subst}
use mathlib.Core.Bool.{Bool, true, false}
use mathlib.Core.List.{List}
use Prim.Native.Nat.{ℕ, zero, suc, ◌+◌, ◌-◌, ◌*◌, ◌<◌, ◌≤◌}
use native.Mathlib.Omega.{arith}
use lib.ListN.{length, get_or}
use Rattle.base_prelude.specs.Choice.{if_lt, if_eq, if_true}
use Rattle.base_prelude.proofs.Choice.{true-false, either, either-eq, either_true, if_eq-yes, if_eq-no, if_true-yes}
use Rattle.base_limits.specs.declared.Width.TheVariants.{Bits32}
use Rattle.base_limits.specs.declared.State.{State}
use Rattle.base_limits.specs.declared.State.TheVariants.{Running, Finished, Stopped, Paused}
use Rattle.base_limits.specs.declared.Machine.{Machine}
use Rattle.base_limits.specs.Record.{going_on, moved_to}
use Rattle.prog_tables.specs.Statement.{Row, row_at}
use Rattle.prog_tables.specs.Program.{lent_program}
use Rattle.vm_definitions.specs.Frames.{is_first, importing, called_from, head_good}
use Rattle.vm_definitions.specs.Step.{World, After, Effect, stops, leaves, idle, guarded, effected, counting, effect_of, arguments_of, in_state_of, paused_by, pausing, statement_of}
use Rattle.vm_definitions.specs.Operands.{Words, words, bad}
use Rattle.vm_definitions.specs.Lent.{world}
use Rattle.vm_definitions.specs.declared.Broken.{Broken}
use Rattle.vm_definitions.specs.declared.Broken.TheVariants.{No, At, Somewhere}
use Rattle.vm_guard.specs.Guard.{within_broken}
use Rattle.vm_guard.specs.FrameInUse.{frame_good, good_frame_size}
use Rattle.vm_quick_operands.specs.Fast.{size_of}
use Rattle.vm_quick_operands.proofs.Good.{Function, size-function}
use Rattle.vm_quick_statements.specs.PlainRun.{Taken, quick_step, Ended, adding, on_move, plain_run_of}
use Rattle.vm_quick_statements.specs.declared.Move.{Move}
use Rattle.vm_quick_statements.proofs.Right.{InFrame, Went, Same, RightBy, right-step}
use Rattle.vm_quick_statements.proofs.Unbroken.{went-fine}
use Rattle.vm_quick_calls.specs.Transfers.{to_frame, Transferred, transfer_of}
use Rattle.vm_quick_calls.specs.declared.Transfer.{Transfer}
use Rattle.vm_quick_calls.proofs.Right as transferring
use Rattle.vm_run.specs.Within.{is_running, taken_step, within_step, within_run}
use Rattle.vm_run.specs.Steps.{usable_size, after, ends, end_by, plain_run_end, steps_in_frame_by, steps_in_frame, some_steps}

-- ---- counts

pub count_none : (y : After) → counting 0 y ≡ y
unfolding counting
count_none y = let z : 0 + y.count ≡ y.count = omega arith in ap (λ (n : ℕ). record { world = y.world; count = n; broken = y.broken }) z

pub count_add : (n k : ℕ) (y : After) → counting (n + k) y ≡ counting n (counting k y)
unfolding counting
count_add n k y = let z : n + k + y.count ≡ n + (k + y.count) = omega arith in ap (λ (i : ℕ). record { world = y.world; count = i; broken = y.broken }) z

-- ---- the frame in use

pub running-is : (s : State) → is_running s ≡ true → s ≡ Running
unfolding is_running
running-is Running e = refl
running-is (Finished v) e = true-false (sym e)
running-is (Stopped k i) e = true-false (sym e)
running-is (Paused q) e = true-false (sym e)

module _ (t : List ℕ) (c : ℕ) (r : Machine) (st m : List ℕ) (z : ℕ) where
  abbrev g : ℕ
  g = (row_at t r.next).func

  abbrev Holds : Type 0
  Holds = InFrame t c g z r st m

  frame-good-in-frame : r.state ≡ Running → (z ≡ 0 → ⊥) → size_of (row_at t) c g ≡ z → frame_good (row_at t) c (length m) r z st ≡ true → Holds
  unfolding frame_good
  frame-good-in-frame s n e =
      either (λ (b : Bool). b ≡ true → Holds) (length m) r.top false _ (λ l q. true-false (sym q))
      (λ o. either (λ (b : Bool). b ≡ true → Holds) 65536 (length m) false _ (λ l q. true-false (sym q))
      (λ p. either (λ (b : Bool). b ≡ true → Holds) 16384 (length st) false _ (λ l q. true-false (sym q))
      (λ i. either (λ (b : Bool). b ≡ true → Holds) (length st) r.used false _ (λ l q. true-false (sym q))
      (λ j. either-eq (λ (b : Bool). b ≡ true → Holds) (r.frame + z) r.used (head_good Bits32 (row_at t) c st r.frame) false
      (λ k q. record {
        state = s;
        function = size-function (row_at t) c g z n e;
        ends = k;
        room = j;
        stack = i;
        memory = p;
        top = o;
        head = q;
      })
      (λ k q. true-false (sym q))))))

  none : 0 ≡ z → (z ≡ 0 → ⊥) → Holds
  none e n = absurd (n (sym e))

  in-frame-is : r.state ≡ Running → (z ≡ 0 → ⊥) → good_frame_size (row_at t) c (length m) r st ≡ z → Holds
  unfolding good_frame_size
  in-frame-is s n =
      either (λ (x : ℕ). x ≡ z → Holds) r.next c _ 0
      (λ l. either_true (λ (x : ℕ). x ≡ z → Holds) (frame_good (row_at t) c (length m) r (size_of (row_at t) c g) st) (size_of (row_at t) c g) 0
      (λ q e. frame-good-in-frame s n e (subst (λ (x : ℕ). frame_good (row_at t) c (length m) r x st ≡ true) e q)) (λ q e. none e n))
      (λ l e. none e n)

  -- a running record in a frame of some words stands in a good frame
  pub usable-good : usable_size (row_at t) c (length m) r st ≡ z → (z ≡ 0 → ⊥) → Holds
  unfolding usable_size
  usable-good e n =
      either_true (λ (x : ℕ). x ≡ z → Holds) (is_running r.state) (good_frame_size (row_at t) c (length m) r st) 0
      (λ s q. in-frame-is (running-is r.state s) n q) (λ s q. none q n) e

-- ---- one step

module _ (t : List ℕ) (c : ℕ) (lw : List ℕ) (lc d : ℕ) where
  runs_on : (s : State) → s ≡ Running → is_running s ≡ true
  unfolding is_running
  runs_on s e = rw e

  taken-leaves : (x y : World) → within_broken (lent_program t c lw lc d) x.machine x.stack (length x.memory) ≡ No → importing (row_at t x.machine.next) ≡ false
      → effect_of (lent_program t c lw lc d) x ≡ leaves y → taken_step t c lw lc d x ≡ after y 1
  unfolding taken_step statement_of guarded effected if_true
  taken-leaves x y b i e = rw (b, i, e)

  step-leaves : (r : Machine) (st m : List ℕ) (y : World) → r.state ≡ Running → within_broken (lent_program t c lw lc d) r st (length m) ≡ No → importing (row_at t r.next) ≡ false
      → effect_of (lent_program t c lw lc d) (world r st m) ≡ leaves y → within_step t c lw lc d (world r st m) ≡ after y 1
  unfolding within_step
  step-leaves r st m y s b i e =
      if_true-yes (taken_step t c lw lc d (world r st m)) (idle (world r st m) No) (runs_on r.state s) ∙ taken-leaves (world r st m) y b i e

  -- a step counts one at most
  effect-low : (x : World) (e : Effect) → (effected x e).count ≤ 1
  unfolding effected
  effect-low x (stops k) = omega arith
  effect-low x (leaves y) = omega arith

  pause-low : (x : World) (vs : Words) → (paused_by (lent_program t c lw lc d) x vs).count ≤ 1
  unfolding paused_by idle
  pause-low x (words vs) = omega arith
  pause-low x bad = effect-low x (stops 32)

  statement-low : (x : World) → (statement_of (lent_program t c lw lc d) x).count ≤ 1
  unfolding statement_of pausing
  statement-low x =
      either_true (λ (y : After). y.count ≤ 1) (importing (row_at t x.machine.next)) _ _
      (λ i. either-eq (λ (y : After). y.count ≤ 1) (row_at t x.machine.next).kind 7 _ _
      (λ k. either_true (λ (y : After). y.count ≤ 1) _ _ _ (λ g. pause-low x _) (λ g. effect-low x (stops 32))) (λ k. pause-low x _))
      (λ i. effect-low x _)

  guarded-low : (x : World) (y : After) (b : Broken) → y.count ≤ 1 → (guarded x y b).count ≤ 1
  unfolding guarded idle
  guarded-low x y No h = h
  guarded-low x y (At i) h = omega arith
  guarded-low x y Somewhere h = omega arith

  step-low : (x : World) → (within_step t c lw lc d x).count ≤ 1
  unfolding within_step taken_step idle
  step-low x =
      either_true (λ (y : After). y.count ≤ 1) (is_running x.machine.state) _ _ (λ s. guarded-low x _ _ (statement-low x)) (λ s. omega arith)

  run-one : (b : ℕ) (x y : World) → within_step t c lw lc d x ≡ after y 1 → within_run t c lw lc d (suc b) x ≡ counting 1 (within_run t c lw lc d b y)
  unfolding within_run if_eq
  run-one b x y e = rw e

  -- ---- a plain run

  -- the steps of a run so far, and where the record stands
  record PlainRuns (g size b : ℕ) (x y : World) (k : ℕ) : Type 0 where
    bound : k ≤ b
    runs : within_run t c lw lc d b x ≡ counting k (within_run t c lw lc d (b - k) y)
    in_frame : InFrame t c g size y.machine y.stack y.memory

  head-same : (st st' : List ℕ) (s : ℕ) → get_or st' s 0 ≡ get_or st s 0 → get_or st' (s + 1) 0 ≡ get_or st (s + 1) 0 → head_good Bits32 (row_at t) c st s ≡ true
      → head_good Bits32 (row_at t) c st' s ≡ true
  unfolding head_good is_first called_from
  head-same st st' s e q h = rw (e, q) h

  module _ (g size : ℕ) where
    in-frame-on : (r : Machine) (st m : List ℕ) (i end : ℕ) (st' m' : List ℕ) → InFrame t c g size r st m → Went t c lw lc g d size r st m i end st' m' → InFrame t c g size (going_on r i end) st' m'
    unfolding going_on
    in-frame-on r st m i end st' m' h w =
        record {
          state = h.state;
          function = h.function;
          ends = h.ends;
          room = rw w.stack h.room;
          stack = rw w.stack h.stack;
          memory = rw w.memory h.memory;
          top = rw w.memory w.top;
          head = head-same st st' r.frame w.first w.second h.head;
        }

    went-step : (r : Machine) (st m : List ℕ) (i end : ℕ) (st' m' : List ℕ) → InFrame t c g size r st m → Went t c lw lc g d size r st m i end st' m'
        → within_step t c lw lc d (world r st m) ≡ after (world (going_on r i end) st' m') 1
    went-step r st m i end st' m' h w = step-leaves r st m (world (going_on r i end) st' m') h.state (went-fine t c lw lc g d size r st m i end st' m' h w) w.imports w.effect

    stand : (b : ℕ) (r : Machine) (st m : List ℕ) → InFrame t c g size r st m
        → PlainRuns g size b (world r st m) (ends t c lw lc d r (record { next = r.next; top = r.top; count = 0; stack = st; memory = m })) 0
    unfolding moved_to
    stand b r st m h =
        let z : b - 0 ≡ b = omega arith in
        record {
          bound = omega arith;
          runs = sym (count_none _ ∙ ap (λ (n : ℕ). within_run t c lw lc d n (world r st m)) z);
          in_frame = h;
        }

    -- where a plain run from a record, a stack and a memory ends
    abbrev ended : ℕ → Machine → List ℕ → List ℕ → Ended
    ended b r st m = plain_run_of t c g d size r.frame b st m r.next r.top

    -- that a plain run of so many steps is steps of a run
    abbrev Right : ℕ → Machine → List ℕ → List ℕ → Ended → Type 0
    Right b r st m e = PlainRuns g size b (world r st m) (ends t c lw lc d r e) e.count

    one_more_lem : (b : ℕ) (r : Machine) (st m : List ℕ) (i end : ℕ) (st' m' : List ℕ) (e : Ended) → within_step t c lw lc d (world r st m) ≡ after (world (going_on r i end) st' m') 1
        → Right b (going_on r i end) st' m' e → Right (suc b) r st m (adding 1 e)
    unfolding adding moved_to going_on
    one_more_lem b r st m i end st' m' e w s =
        let z : suc b - (1 + e.count) ≡ b - e.count = omega arith in
        record {
          bound = omega (arith, s.bound);
          runs =
              run-one b (world r st m) (world (going_on r i end) st' m') w
              ∙ ap (counting 1) s.runs
              ∙ sym (count_add 1 e.count _)
              ∙ ap (λ (n : ℕ). counting (1 + e.count) (within_run t c lw lc d n (ends t c lw lc d (going_on r i end) e))) (sym z);
          in_frame = s.in_frame;
        }

    -- by what became of the first statement
    from-move : (b : ℕ) (r : Machine) (st m : List ℕ) → InFrame t c g size r st m → (x : Option Move) (st' m' : List ℕ)
        → ((r : Machine) (st m : List ℕ) → InFrame t c g size r st m → Right b r st m (ended b r st m)) → RightBy t c lw lc g d size r st m x st' m'
        → Right (suc b) r st m
        (on_move x (record { next = r.next; top = r.top; count = 0; stack = st'; memory = m' }) (λ i e. adding 1 (plain_run_of t c g d size r.frame b st' m' i e)))
    unfolding on_move RightBy going_on
    from-move b r st m h (Some x) st' m' go w =
        one_more_lem b r st m x.next x.top st' m' _ (went-step r st m x.next x.top st' m' h w) (go (going_on r x.next x.top) st' m' (in-frame-on r st m x.next x.top st' m' h w))
    from-move b r st m h None st' m' go w = rw (w.stack, w.memory) (stand (suc b) r st m h)

    plain_runs : (b : ℕ) (r : Machine) (st m : List ℕ) → InFrame t c g size r st m → Right b r st m (ended b r st m)
    unfolding plain_run_of
    plain_runs zero r st m h = stand 0 r st m h
    plain_runs (suc b) r st m h = from-move b r st m h _ _ _ (plain_runs b) (right-step t c lw lc g d size r st m h)

  -- ---- several steps

  -- some steps within a budget b from the world x are the first steps of a run, or all it does
  pub record Several (b : ℕ) (x : World) (y : After) : Type 0 where
    pub bound : y.count ≤ b
    pub runs : (y.count ≡ 0 → ⊥) → within_run t c lw lc d b x ≡ counting y.count (within_run t c lw lc d (b - y.count) y.world)
    pub stops : y.count ≡ 0 → within_run t c lw lc d b x ≡ y

  exact : (b : ℕ) (x : World) → 0 < b → Several b x (within_step t c lw lc d x)
  unfolding within_run
  exact zero x l = absurd (omega (arith, l))
  exact (suc b) x l =
      record {
        bound = omega (arith, step-low x);
        runs = λ n.
            let k : (within_step t c lw lc d x).count ≡ 1 = omega (arith, n, step-low x) in
            let z : suc b - (within_step t c lw lc d x).count ≡ b = omega (arith, k) in
            if_eq-no (within_step t c lw lc d x) (counting 1 (within_run t c lw lc d b (within_step t c lw lc d x).world)) n
            ∙ ap (λ (i : ℕ). counting i (within_run t c lw lc d b (within_step t c lw lc d x).world)) (sym k)
            ∙ ap (λ (i : ℕ). counting (within_step t c lw lc d x).count (within_run t c lw lc d i (within_step t c lw lc d x).world)) (sym z);
        stops = λ n. if_eq-yes (within_step t c lw lc d x) (counting 1 (within_run t c lw lc d b (within_step t c lw lc d x).world)) n;
      }

  module _ (g size b : ℕ) (x y : World) (k : ℕ) (s : PlainRuns g size b x y k) where
    -- the plain run alone
    alone : 0 < k → Several b x (after y k)
    alone l = record { bound = s.bound; runs = λ n. s.runs; stops = λ n. absurd (omega (arith, l, n)) }

    -- and one step more
    further : (y' : World) → k < b → within_step t c lw lc d y ≡ after y' 1 → Several b x (after y' (k + 1))
    further y' l e =
        let z : b - k ≡ suc (b - (k + 1)) = omega (arith, l) in
        record {
          bound = omega (arith, l);
          runs = λ n.
              s.runs
              ∙ ap (λ (i : ℕ). counting k (within_run t c lw lc d i y)) z
              ∙ ap (counting k) (run-one (b - (k + 1)) y y' e)
              ∙ sym (count_add k 1 (within_run t c lw lc d (b - (k + 1)) y'));
          stops = λ n. absurd (let z : k + 1 ≡ 0 = n in omega (arith, z));
        }

    -- a plain run of no step
    nothing : k ≡ 0 → (z : After) → Several b y z → Several b x z
    nothing e z v =
        let same : within_run t c lw lc d b x ≡ within_run t c lw lc d b y =
        s.runs
        ∙ ap (λ (i : ℕ). counting i (within_run t c lw lc d (b - i) y)) e
        ∙ count_none (within_run t c lw lc d (b - 0) y)
        ∙ ap (λ (i : ℕ). within_run t c lw lc d i y) (let q : b - 0 ≡ b = omega arith in q) in
        record { bound = v.bound; runs = λ n. same ∙ v.runs n; stops = λ n. same ∙ v.stops n }

    rests : (v : Option Transfer) (st' : List ℕ) → k < b → transferring.RightBy t c lw lc g d size y.machine y.stack y.memory v st' → Several b x (end_by t c lw lc d k y v st')
    unfolding transferring.RightBy end_by
    rests (Some go) st' l w = further _ l (step-leaves y.machine y.stack y.memory _ s.in_frame.state w.fine w.imports w.effect)
    rests None st' l w =
        rw w
        (either (Several b x) 0 k (after y k) (within_step t c lw lc d y) (λ p. alone p)
        (λ p. nothing (omega (arith, p)) (within_step t c lw lc d y) (exact b y (omega (arith, l)))))

    plain_end : c < 4294967296 → k < b → Several b x (plain_run_end t c lw lc d g size k y)
    unfolding plain_run_end
    plain_end small l = rests _ _ l (transferring.right-transfer t c lw lc g d size y.machine y.stack y.memory small s.in_frame)

  in-frame-by : c < 4294967296 → (g size b : ℕ) (r : Machine) (st m : List ℕ) → 0 < b → InFrame t c g size r st m → (e : Ended) → PlainRuns g size b (world r st m) (ends t c lw lc d r e) e.count
      → Several b (world r st m) (steps_in_frame_by t c lw lc d g size b r e)
  unfolding steps_in_frame_by
  in-frame-by small g size b r st m p h e s =
      either (Several b (world r st m)) e.count b _ _ (λ l. plain_end g size b (world r st m) (ends t c lw lc d r e) e.count s small l)
      (λ l. alone g size b (world r st m) (ends t c lw lc d r e) e.count s (omega (arith, l, p)))

  -- what is taken at once is the first steps of a run, or all it does
  pub several : c < 4294967296 → (b : ℕ) (r : Machine) (st m : List ℕ) → 0 < b → Several b (world r st m) (some_steps t c lw lc d b (world r st m))
  unfolding some_steps steps_in_frame
  several small b r st m p =
      either-eq (Several b (world r st m)) (usable_size (row_at t) c (length m) r st) 0 _ _ (λ e. exact b (world r st m) p)
      (λ n. let h = usable-good t c r st m (usable_size (row_at t) c (length m) r st) refl n in
      in-frame-by small (row_at t r.next).func (usable_size (row_at t) c (length m) r st) b r st m p h _ (plain_runs (row_at t r.next).func (usable_size (row_at t) c (length m) r st) b r st m h))
