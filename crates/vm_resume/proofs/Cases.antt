-- The ways through going on.
-- Assumes nothing.
use mathlib.Core.Path.{◌≡◌, refl, sym, ◌∙◌, ap}
use mathlib.Core.Bool.{Bool, true, false}
use mathlib.Core.List.{List, []}
use Prim.Native.Nat.{ℕ, suc, ◌*◌, ◌<◌}
use native.Mathlib.Omega.{arith}
use lib.ListN.{length}
use lib.Dec.{ltb}
use Rattle.prog_tables.specs.Tests.{one_of}
use Rattle.base_prelude.specs.Choice.{if_true}
use Rattle.base_prelude.proofs.Choice.{true-false}
use Rattle.base_limits.specs.declared.Width.TheVariants.{Bits32}
use Rattle.base_limits.specs.declared.State.{State}
use Rattle.base_limits.specs.declared.State.TheVariants.{Running, Finished, Stopped, Paused}
use Rattle.base_limits.specs.declared.Machine.{Machine}
use Rattle.base_limits.specs.Record.{with_state}
use Rattle.prog_tables.specs.Statement.{Row, row_at}
use Rattle.prog_tables.specs.Label.{label_at}
use Rattle.prog_tables.specs.Program.{Program, program_from, lent_program}
use Rattle.prog_tables.specs.Faults.{count_fault}
use Rattle.vm_counts.proofs.Cases.{count-any}
use Rattle.vm_guard.specs.Guard.{within_resume}
use Rattle.vm_guard.specs.Passed.{Passed}
use Rattle.vm_guard.proofs.Passed.{resumable, resume-broken, resume-lent}
use Rattle.vm_definitions.proofs.Seen.{handed-in-seen, handed-in-lent}
use Rattle.vm_definitions.specs.Frames.{is_return, returns_import, leaves_frame}
use Rattle.vm_definitions.specs.Broken.{or_else, resume_broken}
use Rattle.vm_definitions.specs.Step.{World, After, Effect, idle, guarded, effected, in_state_of, handed_in, Continued, on_pause, resume_of}
use Rattle.vm_definitions.specs.Claim.{is_paused}
use Rattle.vm_definitions.specs.Lent.{tables_of, world, left, resumed}
use Rattle.vm_definitions.specs.declared.Outcome.{Outcome}
use Rattle.vm_definitions.specs.declared.Broken.{Broken}
use Rattle.vm_definitions.specs.declared.Broken.TheVariants.{No, At, Somewhere}
use Rattle.vm_calls.specs.Outcomes as outcomes
use Rattle.vm_pauses.specs.Pauses.{handing_in, Awaits}
use Rattle.vm_calls.specs.Outcomes.{given_back}
use Rattle.vm_resume.specs.Within.{counts_broken, taken_up, resumed_with}
use Rattle.prog_tables.proofs.Each.{one-true}

-- ---- a paused record

returns-leave : (r : Row) → returns_import r ≡ true → leaves_frame r ≡ true
unfolding leaves_frame
returns-leave r e = rw e (one-true (is_return r))

-- m bytes of memory
module _ (t : List ℕ) (c : ℕ) (lw : List ℕ) (lc d : ℕ) (r q : Machine) (st : List ℕ) (m : ℕ) (b : Broken) (e : b ≡ within_resume (lent_program t c lw lc d) r st m) (h : b ≡ No)
    (s : q ≡ with_state Running r) where
  known : Passed (lent_program t c lw lc d) r st m
  known = resumable t c lw lc d r st m (sym e ∙ h)

  pub up-low : c < 4294967296 → q.next < 4294967295
  unfolding with_state
  up-low l = rw s (let p = known.within in omega (arith, p, l))

  pub up-awaits : Awaits (row_at t) c q st m
  unfolding with_state
  up-awaits = rw s (record { leaves = λ i. known.leaves (returns-leave (row_at t r.next) i) })

module _ (t : List ℕ) (c : ℕ) (lw : List ℕ) (lc d v : ℕ) (r : Machine) (st m : List ℕ) (b : Broken) (e : b ≡ within_resume (lent_program t c lw lc d) r st (length m)) where
  pub up-on : (q : Machine) (o : Outcome) (st' m' : List ℕ) → b ≡ No → q ≡ with_state Running r → left o st' m' ≡ outcomes.after (handing_in v) t c q st m
      → left o st' m' ≡ taken_up t c lw lc d v (world r st m)
  unfolding taken_up guarded in_state_of
  up-on q o st' m' h s p =
      rw (← e, h, ← s) (p ∙ ap (effected (world q st m)) (sym (handed-in-seen (lent_program t c lw lc d) (label_at [] []) 0 0 false false (world q st m) v)))

  pub up_at : (i : ℕ) (o : Outcome) → b ≡ At i → o ≡ given_back r (At i) → left o st m ≡ taken_up t c lw lc d v (world r st m)
  unfolding taken_up guarded idle
  up_at i o h q = rw (← e, h, q)

  pub up-nowhere : (o : Outcome) → b ≡ Somewhere → o ≡ given_back r Somewhere → left o st m ≡ taken_up t c lw lc d v (world r st m)
  unfolding taken_up guarded idle
  up-nowhere o h q = rw (← e, h, q)

pub ruleset taking-up = (up-on, up_at, up-nowhere)

-- ---- the counts of the tables

module _ (t : List ℕ) (c : ℕ) (lw : List ℕ) (lc d : ℕ) (r : Machine) (st : List ℕ) (m : ℕ) (v : Bool) (e : v ≡ ltb (length t) (c * 27)) where
  pub counts_past : v ≡ true → Somewhere ≡ counts_broken t c lw lc d r st m
  unfolding counts_broken if_true
  counts_past h = rw (← e, h)

  module _ (b : Broken) (h : v ≡ false) (q : b ≡ within_resume (lent_program t c lw lc d) r st m) where
    pub counts-none : b ≡ No → Somewhere ≡ counts_broken t c lw lc d r st m
    unfolding counts_broken if_true or_else
    counts-none o = rw (← e, h, ← q, o)

    pub counts-at : (i : ℕ) → b ≡ At i → At i ≡ counts_broken t c lw lc d r st m
    unfolding counts_broken if_true or_else
    counts-at i o = rw (← e, h, ← q, o)

    pub counts-somewhere : b ≡ Somewhere → Somewhere ≡ counts_broken t c lw lc d r st m
    unfolding counts_broken if_true or_else
    counts-somewhere o = rw (← e, h, ← q, o)

pub ruleset counts-ways = (counts_past, counts-none, counts-at, counts-somewhere)

-- a refusal that is some refusal changes nothing
guarded-broken : (x : World) (y : After) (a : Bool) (b : Broken)
    → guarded x y (if_true a Somewhere (or_else b Somewhere)) ≡ idle x (if_true a Somewhere (or_else b Somewhere))
unfolding guarded if_true or_else
guarded-broken x y true b = refl
guarded-broken x y false No = refl
guarded-broken x y false (At i) = refl
guarded-broken x y false Somewhere = refl

counts-bad : (a b : Bool) (x : Broken) → one_of a b ≡ true → if_true a Somewhere (or_else x (if_true b Somewhere No)) ≡ if_true a Somewhere (or_else x Somewhere)
unfolding if_true
counts-bad true b x e = refl
counts-bad false true x e = refl
counts-bad false false x e = true-false (sym e)

counts-fine : (a b : Bool) (x : Broken) → one_of a b ≡ false → if_true a Somewhere (or_else x (if_true b Somewhere No)) ≡ x
unfolding if_true or_else
counts-fine true b x e = true-false e
counts-fine false true x e = true-false e
counts-fine false false No e = refl
counts-fine false false (At i) e = refl
counts-fine false false Somewhere e = refl

module _ (t : List ℕ) (c : ℕ) (l : List ℕ) (k : ℕ) (names : List ℕ) (d v : ℕ) (r : Machine) (st m : List ℕ) where
  abbrev T : Program
  T = program_from Bits32 (tables_of t c l k names d)

  abbrev went : After
  went = effected (in_state_of Running (world r st m)) (handed_in T v (in_state_of Running (world r st m)))

  count_of : {b : Bool} → count_fault T ≡ b → one_of T.statements_past T.labels_past ≡ b
  unfolding count_fault
  count_of e = e

  module _ (f : Bool) (g : f ≡ count_fault (program_from Bits32 (tables_of t c l k names 0))) where
    fault : count_fault T ≡ f
    fault = sym (g ∙ count-any t c l k names d)

    pub go-fault : (b : Broken) (o : Outcome) → f ≡ true → b ≡ counts_broken t c l k d r st (length m) → o ≡ given_back r b → left o st m ≡ resumed_with T v (world r st m)
    unfolding resumed_with idle counts_broken
    go-fault b o i p q =
        ap (λ (z : Outcome). left z st m) (q ∙ ap (given_back r) p)
        ∙ sym (guarded-broken (world r st m) went T.statements_past (within_resume (lent_program t c l k d) r st (length m)))
        ∙ ap (λ (z : Broken). guarded (world r st m) went (if_true T.statements_past Somewhere (or_else z Somewhere))) (sym (resume-lent t c l k names d r st (length m)))
        ∙ ap (guarded (world r st m) went)
        (sym (resume-broken T r st (length m) ∙ counts-bad T.statements_past T.labels_past (within_resume T r st (length m)) (count_of (fault ∙ i))))

    pub go-within : (o : Outcome) (st' m' : List ℕ) → f ≡ false → left o st' m' ≡ taken_up t c l k d v (world r st m) → left o st' m' ≡ resumed_with T v (world r st m)
    unfolding resumed_with taken_up
    go-within o st' m' i q =
        q
        ∙ ap (λ (z : Effect). guarded (world r st m) (effected (in_state_of Running (world r st m)) z) (within_resume (lent_program t c l k d) r st (length m)))
        (sym (handed-in-lent t c l k names d (in_state_of Running (world r st m)) v))
        ∙ ap (guarded (world r st m) went)
        (sym
        (resume-broken T r st (length m)
        ∙ counts-fine T.statements_past T.labels_past (within_resume T r st (length m)) (count_of (fault ∙ i))
        ∙ resume-lent t c l k names d r st (length m)))

pub ruleset going-ways = (go-fault, go-within)

-- ---- 37

pause-told : (s : State) (y : After) (x : World) → is_paused s ≡ true → on_pause s y x ≡ record { after = y; unpaused = false }
unfolding is_paused on_pause
pause-told Running y x e = true-false (sym e)
pause-told (Finished v) y x e = true-false (sym e)
pause-told (Stopped k i) y x e = true-false (sym e)
pause-told (Paused q) y x e = refl

pause-not : (s : State) (y : After) (x : World) → is_paused s ≡ false → on_pause s y x ≡ record { after = idle x No; unpaused = true }
unfolding is_paused on_pause
pause-not Running y x e = refl
pause-not (Finished v) y x e = refl
pause-not (Stopped k i) y x e = refl
pause-not (Paused q) y x e = true-false e

module _ (p : Program) (v : ℕ) (r : Machine) (st m : List ℕ) (b : Bool) (e : b ≡ is_paused r.state) where
  pub resume-on : (o : Outcome) (st' m' : List ℕ) → b ≡ true → left o st' m' ≡ resumed_with p v (world r st m)
      → resumed (record { outcome = o; unpaused = false }) st' m' ≡ resume_of p v (world r st m)
  unfolding resume_of resumed_with
  resume-on o st' m' h q = ap (λ (y : After). record { after = y; unpaused = false }) q ∙ sym (pause-told r.state _ (world r st m) (sym e ∙ h))

  pub resume-not : (o : Outcome) → b ≡ false → o ≡ given_back r No → resumed (record { outcome = o; unpaused = true }) st m ≡ resume_of p v (world r st m)
  unfolding resume_of idle
  resume-not o h q = ap (λ (z : Outcome). record { after = left z st m; unpaused = true }) q ∙ sym (pause-not r.state _ (world r st m) (sym e ∙ h))

pub ruleset resuming = (resume-on, resume-not)
