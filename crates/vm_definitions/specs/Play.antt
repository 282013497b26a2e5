-- Any list of starts, steps, runs and goings on: "between calls the memory's bytes may become anything, its length stays".
-- Assumes nothing.
use Rattle.std.specs.Prelude.{ℕ, zero, suc, Bool, true, false, List, [], ◌∷◌, ◌++◌, Ok, Err}
use Rattle.base_prelude.specs.Choice.{if_eq}
use Rattle.prog_tables.specs.Program.{Program}
use Rattle.vm_definitions.specs.Step.{World, step_of, run_of, resume_of}
use Rattle.vm_definitions.specs.Start.{start_of, start_leaves, started_function}
use Rattle.vm_definitions.specs.Ledger.{Event, started, counted}
use Rattle.vm_definitions.specs.declared.Broken.{Broken}
use Rattle.vm_definitions.specs.declared.Broken.TheVariants.{No, At, Somewhere}
use Rattle.vm_definitions.specs.Start.{Started}
use Rattle.vm_definitions.specs.declared.StartError.TheVariants.{Refused, Unsound}

pub data Call : Type 0 where
  -- of a name, with arguments
  start : List ℕ → List ℕ → Call
  step : Call
  -- with a budget
  run : ℕ → Call
  -- with the word handed in
  resume : ℕ → Call

-- a call, and the memory it finds
pub record Invocation : Type 0 where
  pub call : Call
  pub memory : List ℕ

-- what a call leaves: the world, the events it feeds to the ledger, its 35
pub record CallResult : Type 0 where
  pub world : World
  pub events : List Event
  pub broken : Broken
  -- 37
  pub unpaused : Bool

-- the statements that a run counts
unfoldable pub events_of : Program → ℕ → World → List Event
events_of p zero x = []
events_of p (suc b) x =
    if_eq (step_of p x).count 0 [] (counted x.machine.next ∷ events_of p b (step_of p x).world)

-- the statement that going on counts
unfoldable pub resume_events : ℕ → ℕ → List Event
resume_events n zero = []
resume_events n (suc k) = counted n ∷ []

unfoldable pub start_events : ℕ → Started → List Event
start_events g (Ok _) = started g ∷ []
start_events g (Err (Refused k)) = []
start_events g (Err (Unsound b)) = []

unfoldable pub start_broke : Started → Broken
start_broke (Ok _) = No
start_broke (Err (Refused k)) = No
start_broke (Err (Unsound b)) = b

module _ (p : Program) (bytes : List ℕ) where
  unfoldable pub called_on : Call → World → CallResult
  called_on (start name args) x =
      record {
        world = start_leaves p bytes name args x;
        events = start_events (started_function p bytes name args x) (start_of p bytes name args x);
        broken = start_broke (start_of p bytes name args x);
        unpaused = false;
      }
  called_on step x = record { world = (step_of p x).world; events = events_of p 1 x; broken = (step_of p x).broken; unpaused = false }
  called_on (run b) x = record { world = (run_of p b x).world; events = events_of p b x; broken = (run_of p b x).broken; unpaused = false }
  called_on (resume v) x =
      record {
        world = (resume_of p v x).after.world;
        events = resume_events x.machine.next (resume_of p v x).after.count;
        broken = (resume_of p v x).after.broken;
        unpaused = (resume_of p v x).unpaused;
      }

  -- one invocation
  unfoldable pub invoked_on : Invocation → World → CallResult
  invoked_on c x = called_on c.call (record { machine = x.machine; stack = x.stack; memory = c.memory })

  -- after a list of invocations: the world, all events, and the 35 of each call
  unfoldable pub world_after : World → List Invocation → World
  world_after x [] = x
  world_after x (c ∷ cs) = world_after (invoked_on c x).world cs

  unfoldable pub events_after : World → List Invocation → List Event
  events_after x [] = []
  events_after x (c ∷ cs) = (invoked_on c x).events ++ events_after (invoked_on c x).world cs

  unfoldable pub refusals_after : World → List Invocation → List Broken
  refusals_after x [] = []
  refusals_after x (c ∷ cs) = (invoked_on c x).broken ∷ refusals_after (invoked_on c x).world cs
