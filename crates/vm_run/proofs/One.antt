-- A run of one step is a step.
-- Assumes nothing.
use mathlib.Core.Path.{◌≡◌, refl, sym, ◌∙◌}
use mathlib.Core.Bool.{Bool}
use Prim.Native.Nat.{ℕ, zero, suc, ◌+◌}
use Rattle.base_prelude.specs.Choice.{if_eq, if_true}
use Rattle.base_prelude.proofs.Choice.{either-eq, either_true}
use Rattle.base_limits.specs.declared.State.{State}
use Rattle.base_limits.specs.declared.State.TheVariants.{Running, Finished, Stopped, Paused}
use Rattle.prog_tables.specs.Program.{Program}
use Rattle.vm_definitions.specs.Operands.{Words, words, bad}
use Rattle.vm_definitions.specs.Frames.{importing}
use Rattle.vm_definitions.specs.Step.{World, After, Effect, stops, leaves, idle, guarded, in_state, in_state_of, effected, counting, effect_of, paused_by, pausing, statement_of, step_of, run_of}
use Rattle.vm_definitions.specs.declared.Broken.{Broken}
use Rattle.vm_definitions.specs.declared.Broken.TheVariants.{No, At, Somewhere}
use Rattle.vm_run.specs.Steps.{after}

-- what counts counts one, and is no 35
abbrev Sure : After → Type 0
Sure y = (y.count ≡ 0 → ⊥) → y ≡ after y.world 1

effect-sure : (x : World) (e : Effect) → Sure (effected x e)
unfolding effected idle
effect-sure x (stops k) n = absurd (n refl)
effect-sure x (leaves y) n = refl

guarded-sure : (x : World) (y : After) (b : Broken) → Sure y → Sure (guarded x y b)
unfolding guarded idle
guarded-sure x y No h n = h n
guarded-sure x y (At i) h n = absurd (n refl)
guarded-sure x y Somewhere h n = absurd (n refl)

idle-sure : (x : World) → Sure (idle x No)
unfolding idle
idle-sure x n = absurd (n refl)

state-sure : (s : State) (y z : After) → Sure y → Sure z → Sure (in_state s y z)
unfolding in_state
state-sure Running y z h k = h
state-sure (Finished v) y z h k = k
state-sure (Stopped i j) y z h k = k
state-sure (Paused q) y z h k = k

module _ (p : Program) (x : World) where
  pause-sure : (vs : Words) → Sure (paused_by p x vs)
  unfolding paused_by idle
  pause-sure (words vs) n = absurd (n refl)
  pause-sure bad n = effect-sure x (stops 32) n

  statement-sure : Sure (statement_of p x)
  unfolding statement_of pausing
  statement-sure =
      either_true Sure (importing (p.rows x.machine.next)) _ _
      (λ i. either-eq Sure (p.rows x.machine.next).kind 7 _ _
      (λ k. either_true Sure _ _ _ (λ g. pause-sure _) (λ g. effect-sure x (stops 32))) (λ k. pause-sure _))
      (λ i. effect-sure x _)

  step-sure : Sure (step_of p x)
  unfolding step_of
  step-sure = state-sure x.machine.state _ _ (guarded-sure x _ _ statement-sure) (idle-sure x)

  pub one-step : run_of p 1 x ≡ step_of p x
  unfolding run_of counting idle
  one-step = either-eq (λ (y : After). y ≡ step_of p x) (step_of p x).count 0 _ _ (λ e. refl) (λ n. sym (step-sure n))
