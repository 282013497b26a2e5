-- Whatever the rows and the record are: a statement that stops has a listed number, and one that does not leaves its record in
-- the state it had or finished. Said of any property N of numbers and S of states.
-- Assumes nothing.
use Rattle.std.proofs.Common.{Err, None, Ok, Option, Some}
use Rattle.vm_definitions.specs.Operands.{Worked, valued}
use mathlib.Core.Bool.{true, false}
use mathlib.Core.List.{List, [], ◌∷◌}
use Prim.Native.Nat.{ℕ}
use Rattle.base_prelude.proofs.Choice.{either, either-eq, either_true}
use Rattle.base_limits.specs.Record.{going_on, moved_to, ended, pause_of}
use Rattle.base_limits.specs.declared.Width.{Width}
use Rattle.base_limits.specs.declared.State.{State}
use Rattle.base_limits.specs.declared.State.TheVariants.{Running, Finished, Stopped, Paused}
use Rattle.base_limits.specs.declared.Machine.{Machine}
use Rattle.base_word.specs.Word.{Answer}
use Rattle.base_word.specs.declared.WordError.TheVariants.{Division, Shift}
use Rattle.prog_tables.specs.Statement.{Row}
use Rattle.prog_tables.specs.Program.{Program}
use Rattle.prog_tables.specs.declared.Operand.{Operand}
use Rattle.vm_definitions.specs.Operands.{Words, words, bad, on_read}
use Rattle.vm_definitions.specs.Operators.{reserved, answered, fetched, byte_of, Operator, operators, line_in, operator_of, applied}
use Rattle.vm_definitions.specs.Expressions.{eval_of}
use Rattle.vm_definitions.specs.Step.{World, Effect, stops, leaves, goes_to, keeps, stores, block_of, end_block_of, test_of, worked_of, assigned, assigned_at, set_at_of, set_byte_by, set_word_by, call_by, call_of, tail_call_by, handed_to, handed_by, returned, return_of, effect_of, After, idle, effected, in_state_of, import_number, paused_by, pausing, statement_of, guarded, handed_in, Continued, on_pause, resume_of}
use Rattle.vm_definitions.specs.declared.Broken.{Broken}
use Rattle.vm_definitions.specs.declared.Broken.TheVariants.{No, At, Somewhere}
use Rattle.vm_definitions.specs.declared.Resumption.{Resumption}
use Rattle.vm_definitions.specs.declared.Resumption.TheVariants.{Ends, Caller}

on_read_lem : {X : Type 0} (P : X → Type 0) (r : Option ℕ) (x : X) (g : ℕ → X) → P x → ((v : ℕ) → P (g v)) → P (on_read r x g)
unfolding on_read
on_read_lem P (Some v) x g p q = q v
on_read_lem P None x g p q = p

module _ (N : ℕ → Type 0) (n30 : N 30) (n31 : N 31) (n32 : N 32) (n33 : N 33) (n34 : N 34) where
  -- ---- expressions

  unfoldable Numbered : Worked → Type 0
  Numbered (Ok got) = Unit {0}
  Numbered (Err k) = N k

  value_numbered : (v top : ℕ) → Numbered (valued v top)
  unfolding Numbered
  value_numbered v top = tt

  stopped_by_lem : (k : ℕ) → N k → Numbered (Err k)
  unfolding Numbered
  stopped_by_lem k h = h

  answer-numbered : (top : ℕ) (a : Answer) → Numbered (answered top a)
  unfolding answered
  answer-numbered top (Ok v) = value_numbered v top
  answer-numbered top (Err Division) = stopped_by_lem 30 n30
  answer-numbered top (Err Shift) = stopped_by_lem 31 n31

  fetch-numbered : (top : ℕ) (r : Option ℕ) → Numbered (fetched top r)
  unfolding fetched
  fetch-numbered top (Some v) = value_numbered v top
  fetch-numbered top None = stopped_by_lem 32 n32

  reserve-numbered : (w : Width) (m top n : ℕ) → Numbered (reserved w m top n)
  unfolding reserved
  reserve-numbered w m top n = either Numbered _ _ _ _ (λ h. stopped_by_lem 34 n34) (λ h. value_numbered _ _)

  byte-numbered : (m : List ℕ) (top a : ℕ) → Numbered (byte_of m top a)
  unfolding byte_of
  byte-numbered m top a = either_true Numbered _ _ _ (λ h. value_numbered _ _) (λ h. stopped_by_lem 32 n32)

  -- every line of the table
  abbrev LineNumbered : Operator → Type 0
  LineNumbered o = (w : Width) (m : List ℕ) (top x y : ℕ) → Numbered (o.result w m top x y)

  unfoldable AllNumbered : List Operator → Type 0
  AllNumbered [] = Unit {0}
  AllNumbered (o ∷ os) = LineNumbered o × AllNumbered os

  line-numbered : (e : ℕ) (os : List Operator) → AllNumbered os → LineNumbered (line_in e os)
  unfolding AllNumbered line_in
  line-numbered e [] h = λ w m top x y. value_numbered 0 top
  line-numbered e (o ∷ os) h = either-eq LineNumbered e o.number o (line_in e os) (λ _. h.0) (λ _. line-numbered e os h.1)

  table-numbered : AllNumbered operators
  unfolding AllNumbered operators
  table-numbered = (
    λ w m top x y. value_numbered _ _,
    (
      λ w m top x y. value_numbered _ _,
      (
        λ w m top x y. answer-numbered top _,
        (
          λ w m top x y. reserve-numbered w _ _ _,
          (
            λ w m top x y. reserve-numbered w _ _ _,
            (
              λ w m top x y. answer-numbered top _,
              (
                λ w m top x y. answer-numbered top _,
                (
                  λ w m top x y. byte-numbered m top _,
                  (
                    λ w m top x y. fetch-numbered top _,
                    (
                      λ w m top x y. answer-numbered top _,
                      (
                        λ w m top x y. value_numbered _ _,
                        (
                          λ w m top x y. value_numbered _ _,
                          (
                            λ w m top x y. value_numbered _ _,
                            (
                              λ w m top x y. answer-numbered top _,
                              (
                                λ w m top x y. answer-numbered top _,
                                (
                                  λ w m top x y. answer-numbered top _,
                                  (
                                    λ w m top x y. answer-numbered top _,
                                    (
                                      λ w m top x y. value_numbered _ _,
                                      (
                                        λ w m top x y. value_numbered _ _,
                                        tt,
                                      ),
                                    ),
                                  ),
                                ),
                              ),
                            ),
                          ),
                        ),
                      ),
                    ),
                  ),
                ),
              ),
            ),
          ),
        ),
      ),
    ),
  )

  apply-numbered : (w : Width) (m : List ℕ) (top e x y : ℕ) → Numbered (applied w m top e x y)
  unfolding applied operator_of
  apply-numbered w m top e x y = line-numbered e operators table-numbered w m top x y

  eval-numbered : (w : Width) (st : List ℕ) (s : ℕ) (m : List ℕ) (top e : ℕ) (os : List Operand) → Numbered (eval_of w st s m top e os)
  unfolding eval_of
  eval-numbered w st s m top e os =
      either-eq Numbered _ _ _ _ (λ h. fetch-numbered top _)
      (λ h. on_read_lem Numbered _ _ _ (stopped_by_lem 32 n32)
      (λ x. either-eq Numbered _ _ _ _ (λ q. apply-numbered w m top e x 0)
      (λ q. on_read_lem Numbered _ _ _ (stopped_by_lem 32 n32) (λ y. apply-numbered w m top e x y))))

  -- ---- statements

  module _ (S : State → Type 0) (finished : (v : ℕ) → S (Finished v)) where
    unfoldable pub Fine : Effect → Type 0
    Fine (stops k) = N k
    Fine (leaves y) = S y.machine.state

    fine-stop : (k : ℕ) → N k → Fine (stops k)
    unfolding Fine
    fine-stop k h = h

    module _ (p : Program) (x : World) (l : S x.machine.state) where
      goes-fine : (n : ℕ) → Fine (goes_to p x n)
      unfolding Fine goes_to going_on
      goes-fine n = l

      keeps-fine : (top i : ℕ) (vs : List ℕ) → Fine (keeps p x top i vs)
      unfolding Fine keeps going_on
      keeps-fine top i vs = l

      stores-fine : (top a : ℕ) (bs : List ℕ) → Fine (stores p x top a bs)
      unfolding Fine stores going_on
      stores-fine top a bs = l

      test-fine : Fine (test_of p x)
      unfolding test_of
      test-fine = on_read_lem Fine _ _ _ (fine-stop 32 n32) (λ a. on_read_lem Fine _ _ _ (fine-stop 32 n32) (λ b. goes-fine _))

      assigned-fine : (v : Worked) → Numbered v → Fine (assigned p x v)
      unfolding assigned Numbered Fine
      assigned-fine (Ok got) h = keeps-fine _ _ _
      assigned-fine (Err k) h = h

      assigned-at-fine : (v : Worked) → Numbered v → Fine (assigned_at p x v)
      unfolding assigned_at Numbered Fine
      assigned-at-fine (Ok got) h = stores-fine _ _ _
      assigned-at-fine (Err k) h = h

      worked-numbered : Numbered (worked_of p x)
      unfolding worked_of
      worked-numbered = eval-numbered p.width _ _ _ _ _ _

      set-at-fine : Fine (set_at_of p x)
      unfolding set_at_of
      set-at-fine = either_true Fine _ _ _ (λ h. assigned-at-fine _ worked-numbered) (λ h. (fine-stop 32 n32))

      set-byte-fine : (vs : Words) → Fine (set_byte_by p x vs)
      unfolding set_byte_by
      set-byte-fine (words vs) = either_true Fine _ _ _ (λ h. stores-fine _ _ _) (λ h. (fine-stop 32 n32))
      set-byte-fine bad = (fine-stop 32 n32)

      set-word-fine : (vs : Words) → Fine (set_word_by p x vs)
      unfolding set_word_by
      set-word-fine (words vs) = either_true Fine _ _ _ (λ h. stores-fine _ _ _) (λ h. (fine-stop 32 n32))
      set-word-fine bad = (fine-stop 32 n32)

      moved-fine : (n frame used top : ℕ) (st m : List ℕ) → Fine (leaves (record { machine = moved_to x.machine n frame used top; stack = st; memory = m }))
      unfolding Fine moved_to
      moved-fine n frame used top st m = l

      call-by-fine : (vs : Words) → Fine (call_by p x vs)
      unfolding call_by
      call-by-fine (words vs) = either Fine _ _ _ _ (λ h. (fine-stop 33 n33)) (λ h. moved-fine _ _ _ _ _ _)
      call-by-fine bad = (fine-stop 32 n32)

      call-fine : Fine (call_of p x)
      unfolding call_of
      call-fine =
          either-eq Fine _ _ _ _ (λ h. either_true Fine _ _ _ (λ q. call-by-fine _) (λ q. (fine-stop 32 n32))) (λ h. call-by-fine _)

      tail-call-fine : (vs : Words) → Fine (tail_call_by p x vs)
      unfolding tail_call_by
      tail-call-fine (words vs) = either Fine _ _ _ _ (λ h. (fine-stop 33 n33)) (λ h. moved-fine _ _ _ _ _ _)
      tail-call-fine bad = (fine-stop 32 n32)

      with-fine : (q : Machine) → S q.state → (st m : List ℕ) → Fine (leaves (record { machine = q; stack = st; memory = m }))
      unfolding Fine
      with-fine q h st m = h

      handed-fine : (v : ℕ) (r : Row) (s : ℕ) (q : Machine) → S q.state → Fine (handed_to p x v r s q)
      unfolding handed_to
      handed-fine v r s q h =
          either-eq Fine _ _ _ _ (λ _. either_true Fine _ _ _ (λ _. with-fine q h _ _) (λ _. (fine-stop 32 n32)))
          (λ _. either-eq Fine _ _ _ _ (λ _. with-fine q h _ _) (λ _. with-fine q h _ _))

      moved_listed : (n frame used top : ℕ) → S (moved_to x.machine n frame used top).state
      unfolding moved_to
      moved_listed n frame used top = l

      ended-fine : (v top : ℕ) (st m : List ℕ) → Fine (leaves (record { machine = ended p.width v top; stack = st; memory = m }))
      unfolding Fine ended
      ended-fine v top st m = finished v

      handed-by-fine : (v : ℕ) (r : Resumption) → Fine (handed_by p x v r)
      unfolding handed_by
      handed-by-fine v (Ends top) = ended-fine v top _ _
      handed-by-fine v (Caller call s used top) = handed-fine v _ s _ (moved_listed _ _ _ _)

      returned-fine : (v : Worked) → Numbered v → Fine (returned p x v)
      unfolding returned Numbered Fine
      returned-fine (Ok got) h = handed-by-fine got.word _
      returned-fine (Err k) h = h

      return-fine : Fine (return_of p x)
      unfolding return_of
      return-fine =
          either-eq Fine _ _ _ _ (λ _. returned-fine _ (value_numbered 0 0))
          (λ _. either-eq Fine _ _ _ _ (λ _. returned-fine _ (value_numbered 0 0)) (λ _. returned-fine _ worked-numbered))

      block-fine : Fine (block_of p x)
      unfolding block_of
      block-fine = keeps-fine _ _ _

      end-block-fine : Fine (end_block_of p x)
      unfolding end_block_of
      end-block-fine = keeps-fine _ _ _

      pub effect-fine : Fine (effect_of p x)
      unfolding effect_of
      effect-fine =
          either_true Fine _ _ _ (λ _. call-fine)
          (λ _. either_true Fine _ _ _ (λ _. return-fine)
          (λ _. either_true Fine _ _ _ (λ _. test-fine)
          (λ _. either-eq Fine _ _ _ _ (λ _. block-fine)
          (λ _. either-eq Fine _ _ _ _ (λ _. end-block-fine)
          (λ _. either-eq Fine _ _ _ _ (λ _. assigned-fine _ worked-numbered)
          (λ _. either-eq Fine _ _ _ _ (λ _. assigned-fine _ worked-numbered)
          (λ _. either-eq Fine _ _ _ _ (λ _. set-at-fine)
          (λ _. either-eq Fine _ _ _ _ (λ _. set-byte-fine _)
          (λ _. either-eq Fine _ _ _ _ (λ _. set-word-fine _)
          (λ _. either-eq Fine _ _ _ _ (λ _. tail-call-fine _)
          (λ _. either-eq Fine _ _ _ _ (λ _. goes-fine _)
          (λ _. either-eq Fine _ _ _ _ (λ _. goes-fine _)
          (λ _. either-eq Fine _ _ _ _ (λ _. goes-fine _)
          (λ _. either-eq Fine _ _ _ _ (λ _. goes-fine _) (λ _. goes-fine _)))))))))))))))

      going-listed : (n top : ℕ) → S (going_on x.machine n top).state
      unfolding going_on
      going-listed n top = l

      -- what the host hands in
      pub handed-in-fine : (v : ℕ) → Fine (handed_in p v x)
      unfolding handed_in
      handed-in-fine v =
          either_true Fine _ _ _ (λ _. handed-by-fine _ _) (λ _. handed-fine _ _ _ _ (going-listed _ _))

-- a call to an imported function stops with 32, or pauses with some words
module _ (P : After → Type 0) (p : Program) (x : World) (stop : P (effected x (stops 32)))
    (pause : (vs : List ℕ) → P (idle (in_state_of (Paused (pause_of (import_number p x) vs)) x) No)) where
  paused-by-cases : (vs : Words) → P (paused_by p x vs)
  unfolding paused_by
  paused-by-cases (words vs) = pause vs
  paused-by-cases bad = stop

  pub pausing-cases : P (pausing p x)
  unfolding pausing
  pausing-cases =
      either-eq P _ _ _ _ (λ _. either_true P _ _ _ (λ _. paused-by-cases _) (λ _. stop)) (λ _. paused-by-cases _)

  -- any statement
  pub statement-cases : P (effected x (effect_of p x)) → P (statement_of p x)
  unfolding statement_of
  statement-cases own = either_true P _ _ _ (λ _. pausing-cases) (λ _. own)

-- going on is 37 or 35, or what the host hands in takes effect
module _ (P : Continued → Type 0) (p : Program) (v : ℕ) (x : World)
    (refused : P (record { after = idle x No; unpaused = true }))
    (broken : (b : Broken) → P (record { after = idle x b; unpaused = false }))
    (taken : P (record { after = effected (in_state_of Running x) (handed_in p v (in_state_of Running x)); unpaused = false })) where
  judged-cases : (b : Broken) → P (record { after = guarded x (effected (in_state_of Running x) (handed_in p v (in_state_of Running x))) b; unpaused = false })
  unfolding guarded
  judged-cases No = taken
  judged-cases (At i) = broken (At i)
  judged-cases Somewhere = broken Somewhere

  state-cases : (s : State) (b : Broken) → P (on_pause s (guarded x (effected (in_state_of Running x) (handed_in p v (in_state_of Running x))) b) x)
  unfolding on_pause
  state-cases Running b = refused
  state-cases (Finished u) b = refused
  state-cases (Stopped k i) b = refused
  state-cases (Paused q) b = judged-cases b

  pub resume-cases : P (resume_of p v x)
  unfolding resume_of
  resume-cases = state-cases x.machine.state _
