-- What a call answers: the number given back, the lent record and the six result words: number, place, count (low and high 32 bits),
-- whether the record has finished or paused, and its word then.
-- Assumes nothing.
use Rattle.vm_definitions.specs.declared.StartError.{StartError}
use Rattle.std.specs.Prelude.{ℕ, ◌/◌, ◌%◌, Bool, true, false, not, List, [], ◌∷◌, eqb, get_or, Ok, Err}
use Rattle.base_limits.specs.Limits.{word_values}
use Rattle.base_prelude.specs.Choice.{if_eq, if_true}
use Rattle.base_prelude.specs.Lists.{overlay}
use Rattle.base_limits.specs.declared.State.{State}
use Rattle.base_limits.specs.declared.State.TheVariants.{Running, Finished, Stopped, Paused}
use Rattle.base_limits.specs.declared.Machine.{Machine}
use Rattle.vm_definitions.specs.declared.Broken.{Broken}
use Rattle.vm_definitions.specs.declared.Broken.TheVariants.{No, At, Somewhere}
use Rattle.vm_definitions.specs.Start.{Started}
use Rattle.vm_definitions.specs.declared.StartError.TheVariants.{Refused, Unsound}
use Rattle.vm_definitions.specs.declared.Opening.{Opening}
use Rattle.vm_definitions.specs.declared.Outcome.{Outcome}
use Rattle.vm_definitions.specs.declared.Resumed.{Resumed}
use Rattle.c_words.specs.Words as word
use Rattle.c_words.specs.Words.{nowhere}
use Rattle.c_words.specs.Record.{state_number, record_over}

-- the number given back, the record's words and the result's
pub record Reply : Type 0 where
  pub number : ℕ
  pub words : List ℕ
  pub result : List ℕ

abbrev pub reply : ℕ → List ℕ → List ℕ → Reply
reply n ws out = record { number = n; words = ws; result = out }

-- a run where no record is in the lent words: a budget of 0 is answered before anything is looked at
unfoldable pub unfit_number : ℕ → ℕ
unfit_number budget = if_eq budget 0 0 35

-- a number alone: without a place, and nothing changes
abbrev pub refusal_words : ℕ → List ℕ
refusal_words number = number ∷ nowhere ∷ 0 ∷ 0 ∷ 0 ∷ 0 ∷ []

unfoldable pub refusal_reply : ℕ → List ℕ → List ℕ → Reply
refusal_reply number ws out = reply number ws (overlay (refusal_words number) out)

-- ---- a step and a run

unfoldable pub stop_number : State → ℕ
stop_number Running = 0
stop_number (Finished v) = 0
stop_number (Stopped k i) = k
stop_number (Paused q) = 0

unfoldable pub stop_place : State → ℕ
stop_place Running = nowhere
stop_place (Finished v) = nowhere
stop_place (Stopped k i) = i
stop_place (Paused q) = nowhere

-- 35, else the number of the stop, else 0
unfoldable pub broken_number : Broken → State → ℕ
broken_number No s = stop_number s
broken_number (At i) s = 35
broken_number Somewhere s = 35

unfoldable pub broken_place : Broken → State → ℕ
broken_place No s = stop_place s
broken_place (At i) s = i
broken_place Somewhere s = nowhere

unfoldable pub state_flag : State → ℕ
state_flag Running = word.flag_going
state_flag (Finished v) = word.flag_finished
state_flag (Stopped k i) = word.flag_going
state_flag (Paused q) = word.flag_paused

-- the finished word; of a pause the imported name's number
unfoldable pub flagged_word : State → ℕ
flagged_word Running = 0
flagged_word (Finished v) = v
flagged_word (Stopped k i) = 0
flagged_word (Paused q) = q.number

unfoldable pub outcome_number : Outcome → ℕ
outcome_number o = broken_number o.broken o.machine.state

unfoldable pub outcome_words : Outcome → List ℕ
outcome_words o =
    outcome_number o ∷ broken_place o.broken o.machine.state ∷ o.count % word_values ∷ o.count / word_values
    ∷ state_flag o.machine.state ∷ flagged_word o.machine.state ∷ []

-- the call changed the record, whose state's number was s: a step was counted, or it has stopped or paused
unfoldable pub changes : ℕ → Outcome → Bool
changes s o = if_eq o.count 0 (not (eqb (state_number o.machine.state) s)) true

unfoldable pub record_after : Outcome → List ℕ → List ℕ
record_after o ws = if_true (changes (get_or ws word.state 0) o) (record_over o.machine ws) ws

unfoldable pub outcome_reply : Outcome → List ℕ → List ℕ → Reply
outcome_reply o ws out = reply (outcome_number o) (record_after o ws) (overlay (outcome_words o) out)

-- ---- going on

-- "37 [..] for going on with a record that isn't paused, which changes nothing" (02, 3); else as a step
unfoldable pub resumed_reply : Resumed → List ℕ → List ℕ → Reply
resumed_reply o ws out = if_true o.unpaused (refusal_reply 37 ws out) (outcome_reply o.outcome ws out)

-- ---- a start

unfoldable pub unsound_place : Broken → ℕ
unsound_place No = nowhere
unsound_place (At i) = i
unsound_place Somewhere = nowhere

unfoldable pub error_number : StartError → ℕ
error_number (Refused k) = k
error_number (Unsound b) = 35

unfoldable pub error_place : StartError → ℕ
error_place (Refused k) = nowhere
error_place (Unsound b) = unsound_place b

unfoldable pub start_number : Started → ℕ
start_number (Ok _) = 0
start_number (Err e) = error_number e

unfoldable pub start_place : Started → ℕ
start_place (Ok _) = nowhere
start_place (Err e) = error_place e

unfoldable pub start_words : Started → List ℕ
start_words a = start_number a ∷ start_place a ∷ 0 ∷ 0 ∷ 0 ∷ 0 ∷ []

-- the record r that a start leaves is written when it has begun
unfoldable pub record_begun : Started → Machine → List ℕ → List ℕ
record_begun (Ok _) r ws = record_over r ws
record_begun (Err e) r ws = ws

unfoldable pub opening_reply : Opening → List ℕ → List ℕ → Reply
opening_reply o ws out =
    reply (start_number o.answer) (record_begun o.answer o.machine ws) (overlay (start_words o.answer) out)
