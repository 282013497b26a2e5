-- From single steps and starts to any list of calls.
-- Assumes nothing.
use Rattle.std.proofs.Common.{Ok, Err}
use mathlib.Core.Path.{◌≡◌, refl, sym, ◌∙◌, ap, subst}
use mathlib.Core.Bool.{Bool, true, false}
use mathlib.Core.Option.{none}
use mathlib.Core.List.{List, [], ◌∷◌}
use Prim.Native.Nat.{ℕ, zero, suc, ◌≤◌, ◌<◌}
use native.Mathlib.Decide.{ℕ_discrete}
use native.Mathlib.Omega.{arith}
use lib.ListN.{length}
use Rattle.base_prelude.proofs.Choice.{true-false, if_eq-yes, if_eq-no, if_true-yes, if_true-no}
use Rattle.base_limits.specs.Width.{memory_limit}
use Rattle.base_limits.specs.declared.Width.{Width}
use Rattle.base_limits.specs.declared.State.{State}
use Rattle.base_limits.specs.declared.State.TheVariants.{Running, Finished, Stopped, Paused}
use Rattle.base_limits.specs.declared.Pause.{Pause}
use Rattle.base_limits.specs.Record.{stopped, with_state, pause_of}
use Rattle.prog_tables.specs.Label.{Tables, rows}
use Rattle.prog_tables.specs.Statement.{Row}
use Rattle.prog_tables.specs.declared.Operand.{Operand}
use Rattle.prog_tables.specs.Program.{Program, program_from}
use Rattle.vm_definitions.specs.Step.{World, Effect, stops, leaves, effect_stop, effect_of, address_of, After, idle, effected, guarded, pausing, statement_of, in_state, step_of, counting, run_of, handed_in, on_pause, resume_of}
use Rattle.vm_definitions.specs.Access.{word_good}
use Rattle.vm_definitions.specs.Frames.{importing}
use Rattle.vm_definitions.specs.Broken.{step_broken, resume_broken}
use Rattle.vm_definitions.specs.Start.{start_of, start_leaves, started_function}
use Rattle.vm_definitions.specs.Ledger.{Event, counted, Entry, Ledger, fed, counted_in, ledger_of, sum_of}
use Rattle.vm_definitions.specs.Play.{events_of}
use Rattle.vm_definitions.specs.Claim.{running_with, cause_in, Listed, words_of, pause_in, paused_as, is_paused, stopped_by, StopSound, stack_full}
use Rattle.vm_definitions.specs.declared.Broken.{Broken}
use Rattle.vm_definitions.specs.declared.Broken.TheVariants.{No, At, Somewhere}
use Rattle.vm_definitions.specs.Start.{Started}
use Rattle.vm_definitions.specs.declared.StartError.TheVariants.{Refused, Unsound}
use Rattle.vm_definitions.specs.Causes.{word_of, first_cause, meetings_of, reads_of, arguments_read}
use Rattle.vm_definitions.proofs.Invariant.{FrameAt, Under, Invariant}

-- ---- one step by its parts

module _ (w : Width) (t : Tables) (x : World) where
  pub step-running : x.machine.state ≡ Running → step_broken (program_from w t) x.machine x.stack (length x.memory) ≡ No
      → step_of (program_from w t) x ≡ statement_of (program_from w t) x
  unfolding step_of in_state guarded
  step-running e g =
      ap (λ (s : State). in_state s (guarded x (statement_of (program_from w t) x) (step_broken (program_from w t) x.machine x.stack (length x.memory))) (idle x No)) e
      ∙ ap (λ (b : Broken). guarded x (statement_of (program_from w t) x) b) g

  pub step-finished : (v : ℕ) → x.machine.state ≡ Finished v → step_of (program_from w t) x ≡ idle x No
  unfolding step_of in_state
  step-finished v e =
      ap (λ (s : State). in_state s (guarded x (statement_of (program_from w t) x) (step_broken (program_from w t) x.machine x.stack (length x.memory))) (idle x No)) e

  pub step-stopped : (k i : ℕ) → x.machine.state ≡ Stopped k i → step_of (program_from w t) x ≡ idle x No
  unfolding step_of in_state
  step-stopped k i e =
      ap (λ (s : State). in_state s (guarded x (statement_of (program_from w t) x) (step_broken (program_from w t) x.machine x.stack (length x.memory))) (idle x No)) e

  pub step-paused : (q : Pause) → x.machine.state ≡ Paused q → step_of (program_from w t) x ≡ idle x No
  unfolding step_of in_state
  step-paused q e =
      ap (λ (s : State). in_state s (guarded x (statement_of (program_from w t) x) (step_broken (program_from w t) x.machine x.stack (length x.memory))) (idle x No)) e

  statement-own : importing (rows t x.machine.next) ≡ false → statement_of (program_from w t) x ≡ effected x (effect_of (program_from w t) x)
  unfolding statement_of
  statement-own h = if_true-no _ _ h

  statement-import : importing (rows t x.machine.next) ≡ true → statement_of (program_from w t) x ≡ pausing (program_from w t) x
  unfolding statement_of
  statement-import h = if_true-yes _ _ h

-- ---- going on by its parts

not-paused : (s : State) (y : After) (x : World) → is_paused s ≡ false → on_pause s y x ≡ record { after = idle x No; unpaused = true }
unfolding is_paused on_pause
not-paused Running y x e = refl
not-paused (Finished v) y x e = refl
not-paused (Stopped k i) y x e = refl
not-paused (Paused q) y x e = true-false e

-- "37 [..] for going on with a record that isn't paused, which changes nothing"
pub resume-refused : (p : Program) (v : ℕ) (x : World) → is_paused x.machine.state ≡ false → resume_of p v x ≡ record { after = idle x No; unpaused = true }
unfolding resume_of
resume-refused p v x e = not-paused x.machine.state _ x e

-- ---- good worlds: m bytes of memory; where the world is stopped or paused, that step had the memory s

-- the pause of a world is the one that its statement asks for
pub record Asked (p : Program) (s : List ℕ) (x : World) (q : Pause) : Type 0 where
  pub long : length s ≡ length x.memory
  pub import : importing (p.rows x.machine.next) ≡ true
  pub read : arguments_read p (running_with x s) ≡ true
  pub asks : q ≡ pause_in p (running_with x s)

pub data Good (w : Width) (t : Tables) (m : ℕ) (s : List ℕ) : Ledger → World → Type 0 where
  runs : (e : Entry) (es : Ledger) (x : World) → length x.memory ≡ m → x.machine.state ≡ Running → Invariant w t e es x → Good w t m s (e ∷ es) x
  stops_at : (e : Entry) (es : Ledger) (x : World) (k i : ℕ) → length x.memory ≡ m → x.machine.state ≡ Stopped k i → Invariant w t e es x
      → StopSound (program_from w t) (e ∷ es) s x k i → Good w t m s (e ∷ es) x
  pauses_at : (e : Entry) (es : Ledger) (x : World) (q : Pause) → length x.memory ≡ m → x.machine.state ≡ Paused q → Invariant w t e es x
      → Asked (program_from w t) s x q → Good w t m s (e ∷ es) x
  ends : (x : World) (v : ℕ) → length x.memory ≡ m → x.machine.state ≡ Finished v → x.machine.used ≡ 0 → Good w t m s [] x

-- a good world with its own memory
abbrev pub GoodNow : Width → Tables → ℕ → Ledger → World → Type 0
GoodNow w t m es x = Good w t m x.memory es x

-- what is proved of single statements and starts
pub record Parts (w : Width) (t : Tables) (bytes : List ℕ) : Type 0 where
  pub gate : (e : Entry) (es : Ledger) (x : World) → Invariant w t e es x → step_broken (program_from w t) x.machine x.stack (length x.memory) ≡ No
  -- a statement that calls no imported function
  pub cause : (e : Entry) (es : Ledger) (x : World) → Invariant w t e es x → importing (rows t x.machine.next) ≡ false
      → effect_stop (effect_of (program_from w t) x) ≡ cause_in (program_from w t) (e ∷ es) x
  pub listed : (es : Ledger) (x : World) → 0 < cause_in (program_from w t) es x → Listed (cause_in (program_from w t) es x)
  pub full : (e : Entry) (es : Ledger) (x : World) → Invariant w t e es x → stack_full (program_from w t) (e ∷ es) x ≡ true → cause_in (program_from w t) (e ∷ es) x ≡ 33
  pub full_only : (e : Entry) (es : Ledger) (x : World) → Invariant w t e es x → cause_in (program_from w t) (e ∷ es) x ≡ 33 → stack_full (program_from w t) (e ∷ es) x ≡ true
  pub kept : (e : Entry) (es : Ledger) (x y : World) → x.machine.state ≡ Running → Invariant w t e es x → importing (rows t x.machine.next) ≡ false
      → effect_of (program_from w t) x ≡ leaves y
      → GoodNow w t (length x.memory) (counted_in (rows t) x.machine.next (e ∷ es)) y
  pub sums : (e : Entry) (es : Ledger) (x : World) → Invariant w t e es x → x.machine.used ≡ sum_of (rows t) (e ∷ es)
  pub begun : (name args : List ℕ) (x : World) → start_of (program_from w t) bytes name args x ≡ Ok tt
      → (s : List ℕ) → Good w t (length x.memory) s (record { func = started_function (program_from w t) bytes name args x; call = none } ∷ []) (start_leaves (program_from w t) bytes name args x)
  pub unbroken : (name args : List ℕ) (x : World) (b : Broken) → start_of (program_from w t) bytes name args x ≡ Err (Unsound b) → ⊥
  -- a stop's number is no 0
  pub numbered : (e : Entry) (es : Ledger) (x : World) (k : ℕ) → x.machine.state ≡ Running → Invariant w t e es x → importing (rows t x.machine.next) ≡ false
      → effect_of (program_from w t) x ≡ stops k → 0 < k
  -- a call to an imported function
  pub pauses : (es : Ledger) (x : World) → importing (rows t x.machine.next) ≡ true → cause_in (program_from w t) es x ≡ 0
      → pausing (program_from w t) x ≡ paused_as x (pause_in (program_from w t) x)
  pub halts : (es : Ledger) (x : World) → importing (rows t x.machine.next) ≡ true → 0 < cause_in (program_from w t) es x
      → pausing (program_from w t) x ≡ stopped_by x (cause_in (program_from w t) es x)
  pub reads : (es : Ledger) (x : World) → importing (rows t x.machine.next) ≡ true → cause_in (program_from w t) es x ≡ 0 → arguments_read (program_from w t) x ≡ true
  pub reads_only : (es : Ledger) (x : World) → importing (rows t x.machine.next) ≡ true → arguments_read (program_from w t) x ≡ true → cause_in (program_from w t) es x ≡ 0
  -- going on
  pub gate_on : (e : Entry) (es : Ledger) (x : World) → Invariant w t e es x → importing (rows t x.machine.next) ≡ true
      → resume_broken (program_from w t) x.machine x.stack (length x.memory) ≡ No
  pub goes_on : (e : Entry) (es : Ledger) (x y : World) → x.machine.state ≡ Running → Invariant w t e es x → importing (rows t x.machine.next) ≡ true
      → ((rows t x.machine.next).kind ≡ 7 → word_good w (length x.memory) (address_of (program_from w t) x) ≡ true) → (v : ℕ)
      → handed_in (program_from w t) v x ≡ leaves y → GoodNow w t (length x.memory) (counted_in (rows t) x.machine.next (e ∷ es)) y
  pub taken : (e : Entry) (es : Ledger) (x : World) (k : ℕ) → x.machine.state ≡ Running → Invariant w t e es x → importing (rows t x.machine.next) ≡ true
      → ((rows t x.machine.next).kind ≡ 7 → word_good w (length x.memory) (address_of (program_from w t) x) ≡ true) → (v : ℕ)
      → handed_in (program_from w t) v x ≡ stops k → ⊥

-- ---- state and memory's bytes do not matter to the invariant, nor the state to the causes

module _ (w : Width) (t : Tables) (e : Entry) (es : Ledger) (x : World) where
  pub with-state : Invariant w t e es x → (s : State) (m : List ℕ) → length m ≡ length x.memory
      → Invariant w t e es
      (record { machine = with_state s x.machine; stack = x.stack; memory = m })
  unfolding with_state
  with-state i s m l =
      record {
        frame = subst (λ (n : ℕ). FrameAt w t n x.stack e.func x.machine.frame x.machine.next) (sym l) i.frame;
        under = subst (λ (n : ℕ). Under w t n x.stack e.call es x.machine.frame) (sym l) i.under;
        ends = i.ends;
        lent = i.lent;
        few = i.few;
        top = subst (λ (n : ℕ). x.machine.top ≤ n) (sym l) i.top;
        data-fits = subst (λ (n : ℕ). t.data_length ≤ n) (sym l) i.data-fits;
        short = subst (λ (n : ℕ). n ≤ memory_limit w) (sym l) i.short;
      }

module _ (w : Width) (t : Tables) (es : Ledger) (x : World) where
  pub cause-state : cause_in (program_from w t) es (running_with x x.memory) ≡ cause_in (program_from w t) es x
  unfolding cause_in first_cause meetings_of reads_of running_with with_state
  cause-state = refl

-- nor the state to a pause
module _ (p : Program) (x : World) (s : State) where
  abbrev in_other : World
  in_other = record { machine = with_state s x.machine; stack = x.stack; memory = x.memory }

  words-state : (os : List Operand) → words_of p in_other os ≡ words_of p x os
  unfolding words_of with_state
  words-state [] = refl
  words-state (o ∷ os) = ap (λ (vs : List ℕ). word_of p.width x.stack x.machine.frame x.memory o ∷ vs) (words-state os)

  pub pause-state : pause_in p in_other ≡ pause_in p x
  unfolding pause_in with_state
  pause-state = ap (pause_of (p.labels (p.rows x.machine.next).callee).number) (words-state (p.rows x.machine.next).operands)

-- ---- what a step's effect gives

module _ (x : World) where
  pub effected-whole : (e : Effect) → (effected x e).broken ≡ No
  unfolding effected
  effected-whole (stops k) = refl
  effected-whole (leaves y) = refl

  pub effected-stop : (k : ℕ) → (effected x (stops k)).count ≡ 0
  unfolding effected
  effected-stop k = refl

  pub effected-machine : (k : ℕ) → (effected x (stops k)).world.machine ≡ stopped x.machine k
  unfolding effected
  effected-machine k = refl

  pub effected-stack : (k : ℕ) → (effected x (stops k)).world.stack ≡ x.stack
  unfolding effected
  effected-stack k = refl

  pub effected-memory : (k : ℕ) → (effected x (stops k)).world.memory ≡ x.memory
  unfolding effected
  effected-memory k = refl

  pub effected-count : (y : World) → (effected x (leaves y)).count ≡ 1
  unfolding effected
  effected-count y = refl

  effected-world : (y : World) → (effected x (leaves y)).world ≡ y
  unfolding effected
  effected-world y = refl

module _ (w : Width) (t : Tables) (bytes : List ℕ) (p : Parts w t bytes) where
  -- ---- what a running world's step comes to

  module _ (e : Entry) (es : Ledger) (x : World) (s : x.machine.state ≡ Running) (i : Invariant w t e es x) where
    abbrev row : Row
    row = rows t x.machine.next

    abbrev cause : ℕ
    cause = cause_in (program_from w t) (e ∷ es) x

    step-own : importing row ≡ false → step_of (program_from w t) x ≡ effected x (effect_of (program_from w t) x)
    step-own h = step-running w t x s (p.gate e es x i) ∙ statement-own w t x h

    step-import : importing row ≡ true → step_of (program_from w t) x ≡ pausing (program_from w t) x
    step-import h = step-running w t x s (p.gate e es x i) ∙ statement-import w t x h

    -- it stops, pauses, or counts
    pub step-cases : {P : Type 0} → (0 < cause_in (program_from w t) (e ∷ es) x → step_of (program_from w t) x ≡ stopped_by x (cause_in (program_from w t) (e ∷ es) x) → P)
        → (importing (rows t x.machine.next) ≡ true → cause_in (program_from w t) (e ∷ es) x ≡ 0 → step_of (program_from w t) x ≡ paused_as x (pause_in (program_from w t) x) → P)
        → ((y : World) → importing (rows t x.machine.next) ≡ false → cause_in (program_from w t) (e ∷ es) x ≡ 0 → effect_of (program_from w t) x ≡ leaves y
        → step_of (program_from w t) x ≡ effected x (leaves y) → P) → P
    unfolding effect_stop effected stopped_by
    step-cases {P} halting pausing counting = by (importing row) refl
      where
        own : importing row ≡ false → (f : Effect) → effect_of (program_from w t) x ≡ f → P
        own h (stops k) q =
            let a : k ≡ cause = sym (ap effect_stop q) ∙ p.cause e es x i h in
            let b : 0 < k = p.numbered e es x k s i h q in
            halting (omega (arith, a, b)) (step-own h ∙ ap (effected x) (q ∙ ap stops a))
        own h (leaves y) q = counting y h (sym (p.cause e es x i h) ∙ ap effect_stop q) q (step-own h ∙ ap (effected x) q)

        by : (b : Bool) → importing row ≡ b → P
        by false h = own h (effect_of (program_from w t) x) refl
        by true h =
            elim (ℕ_discrete cause 0) [
              | yes z ↦ pausing h z (step-import h ∙ p.pauses (e ∷ es) x h z)
              | no z ↦ let d : 0 < cause = omega arith in halting d (step-import h ∙ p.halts (e ∷ es) x h d)
            ]

    -- what it leaves is good: a stop
    stop-good : (m : ℕ) → length x.memory ≡ m → 0 < cause → GoodNow w t m (e ∷ es) (stopped_by x cause).world
    unfolding stopped_by stopped running_with with_state cause_in first_cause meetings_of reads_of
    stop-good m l h =
        stops_at e es (stopped_by x cause).world cause x.machine.next l refl (with-state w t e es x i (Stopped cause x.machine.next) x.memory refl)
        (record { listed = p.listed (e ∷ es) x h; at = refl; long = refl; met = refl })

    -- a pause
    pause-good : (m : ℕ) → length x.memory ≡ m → importing row ≡ true → cause ≡ 0
        → GoodNow w t m (e ∷ es) (paused_as x (pause_in (program_from w t) x)).world
    unfolding paused_as running_with with_state arguments_read reads_of
    pause-good m l h z =
        pauses_at e es (paused_as x (pause_in (program_from w t) x)).world (pause_in (program_from w t) x) l refl
        (with-state w t e es x i (Paused (pause_in (program_from w t) x)) x.memory refl)
        (record { long = refl; import = h; read = p.reads (e ∷ es) x h z; asks = sym (pause-state (program_from w t) x Running) })

  module _ (m : ℕ) where
    pub step-whole : (s : List ℕ) (es : Ledger) (x : World) → Good w t m s es x → (step_of (program_from w t) x).broken ≡ No
    unfolding idle stopped_by paused_as
    step-whole _ _ _ (runs e es x l s i) =
        step-cases e es x s i (λ h d. ap (λ (y : After). y.broken) d) (λ h z d. ap (λ (y : After). y.broken) d)
        (λ y h z q d. ap (λ (y : After). y.broken) d ∙ effected-whole x (leaves y))
    step-whole _ _ _ (stops_at e es x k n l s i g) = ap (λ (y : After). y.broken) (step-stopped w t x k n s)
    step-whole _ _ _ (pauses_at e es x q l s i g) = ap (λ (y : After). y.broken) (step-paused w t x q s)
    step-whole _ _ _ (ends x v l s u) = ap (λ (y : After). y.broken) (step-finished w t x v s)

    -- a step that counts nothing
    pub step-zero : (es : Ledger) (x : World) → GoodNow w t m es x → (step_of (program_from w t) x).count ≡ 0 → GoodNow w t m es (step_of (program_from w t) x).world
    unfolding idle
    step-zero _ _ (runs e es x l s i) z =
        step-cases e es x s i
        (λ h d. subst (λ (y : After). GoodNow w t m (e ∷ es) y.world) (sym d) (stop-good e es x s i m l h))
        (λ h a d. subst (λ (y : After). GoodNow w t m (e ∷ es) y.world) (sym d) (pause-good e es x s i m l h a))
        (λ y h a q d. absurd (let c : (step_of (program_from w t) x).count ≡ 1 = ap (λ (y : After). y.count) d ∙ effected-count x y in omega (arith, c, z)))
    step-zero _ _ (stops_at e es x k n l s i g) z =
        subst (λ (y : After). GoodNow w t m (e ∷ es) y.world) (sym (step-stopped w t x k n s)) (stops_at e es x k n l s i g)
    step-zero _ _ (pauses_at e es x q l s i g) z =
        subst (λ (y : After). GoodNow w t m (e ∷ es) y.world) (sym (step-paused w t x q s)) (pauses_at e es x q l s i g)
    step-zero _ _ (ends x v l s u) z = subst (λ (y : After). GoodNow w t m [] y.world) (sym (step-finished w t x v s)) (ends x v l s u)

    -- a step that counts
    pub step-one : (es : Ledger) (x : World) → GoodNow w t m es x → ((step_of (program_from w t) x).count ≡ 0 → ⊥)
        → GoodNow w t m (counted_in (rows t) x.machine.next es) (step_of (program_from w t) x).world
    unfolding idle stopped_by paused_as
    step-one _ _ (runs e es x l s i) z =
        step-cases e es x s i (λ h d. absurd (z (ap (λ (y : After). y.count) d))) (λ h a d. absurd (z (ap (λ (y : After). y.count) d)))
        (λ y h a q d.
        subst (λ (y : World). GoodNow w t m (counted_in (rows t) x.machine.next (e ∷ es)) y)
        (sym (ap (λ (y : After). y.world) d ∙ effected-world x y))
        (subst (λ (n : ℕ). GoodNow w t n (counted_in (rows t) x.machine.next (e ∷ es)) y) l (p.kept e es x y s i h q)))
    step-one _ _ (stops_at e es x k n l s i g) z = absurd (z (ap (λ (y : After). y.count) (step-stopped w t x k n s)))
    step-one _ _ (pauses_at e es x q l s i g) z = absurd (z (ap (λ (y : After). y.count) (step-paused w t x q s)))
    step-one _ _ (ends x v l s u) z = absurd (z (ap (λ (y : After). y.count) (step-finished w t x v s)))

    -- ---- runs

    pub record RunGood (b : ℕ) (es : Ledger) (x : World) : Type 0 where
      pub good : GoodNow w t m (ledger_of (rows t) es (events_of (program_from w t) b x)) (run_of (program_from w t) b x).world
      pub whole : (run_of (program_from w t) b x).broken ≡ No

    pub run-good : (b : ℕ) (es : Ledger) (x : World) → GoodNow w t m es x → RunGood b es x
    unfolding run_of events_of ledger_of idle counting fed
    run-good zero es x g = record { good = g; whole = refl }
    run-good (suc b) es x g =
        elim (ℕ_discrete (step_of (program_from w t) x).count 0) [
          | yes z ↦ record {
            good =
                subst (λ (vs : List Event). GoodNow w t m (ledger_of (rows t) es vs) (run_of (program_from w t) (suc b) x).world) (sym (if_eq-yes [] (counted x.machine.next ∷ events_of (program_from w t) b (step_of (program_from w t) x).world) z))
                (subst (λ (y : After). GoodNow w t m es y.world) (sym (if_eq-yes (step_of (program_from w t) x) (counting 1 (run_of (program_from w t) b (step_of (program_from w t) x).world)) z)) (step-zero es x g z));
            whole = ap (λ (y : After). y.broken) (if_eq-yes (step_of (program_from w t) x) (counting 1 (run_of (program_from w t) b (step_of (program_from w t) x).world)) z) ∙ step-whole x.memory es x g;
          }
          | no z ↦ onward z (run-good b (counted_in (rows t) x.machine.next es) (step_of (program_from w t) x).world (step-one es x g z))
        ]
      where
        onward : ((step_of (program_from w t) x).count ≡ 0 → ⊥) → RunGood b (counted_in (rows t) x.machine.next es) (step_of (program_from w t) x).world → RunGood (suc b) es x
        onward z r =
            record {
              good =
                  subst (λ (vs : List Event). GoodNow w t m (ledger_of (rows t) es vs) (run_of (program_from w t) (suc b) x).world) (sym (if_eq-no [] (counted x.machine.next ∷ events_of (program_from w t) b (step_of (program_from w t) x).world) z))
                  (subst (λ (y : After). GoodNow w t m (ledger_of (rows t) (counted_in (rows t) x.machine.next es) (events_of (program_from w t) b (step_of (program_from w t) x).world)) y.world)
                  (sym (if_eq-no (step_of (program_from w t) x) (counting 1 (run_of (program_from w t) b (step_of (program_from w t) x).world)) z)) r.good);
              whole = ap (λ (y : After). y.broken) (if_eq-no (step_of (program_from w t) x) (counting 1 (run_of (program_from w t) b (step_of (program_from w t) x).world)) z) ∙ r.whole;
            }
