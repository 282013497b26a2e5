-- The run record in the words that a host lends.
-- Assumes nothing.
use Rattle.std.specs.Prelude.{ℕ, ◌+◌, Bool, true, false, List, [], ◌∷◌, leb, eqb, length, get_or, Option, Some, None}
use Rattle.base_prelude.specs.Choice.{if_lt, if_eq, if_true}
use Rattle.base_limits.specs.declared.State.{State}
use Rattle.base_limits.specs.declared.State.TheVariants.{Running, Finished, Stopped, Paused}
use Rattle.base_limits.specs.declared.Pause.{Pause}
use Rattle.base_limits.specs.declared.Machine.{Machine}
use Rattle.c_words.specs.Words as word
use Rattle.c_words.specs.Words.{record_size}
use Rattle.base_limits.specs.Record.{of_parts, pause_of, eight_words}
use Rattle.vm_definitions.specs.Access.{store_from}

-- a stop that 01 lists: "30..34"
unfoldable pub is_stop : ℕ → Bool
is_stop k = if_lt k 30 false (leb k 34)

-- s is the number of a state; a stopped one has the number k of a stop. A paused one may hold any words: they are never read
unfoldable pub is_listed : ℕ → ℕ → Bool
is_listed s k =
    if_eq s word.running true (if_eq s word.finished true (if_eq s word.stopped (is_stop k) (eqb s word.paused)))

-- the pause that the words hold
unfoldable pub pause_held : List ℕ → Pause
pause_held ws =
    record {
      number = get_or ws word.value 0;
      count = get_or ws word.at 0;
      first = get_or ws word.arguments 0;
      second = get_or ws (word.arguments + 1) 0;
      third = get_or ws (word.arguments + 2) 0;
      fourth = get_or ws (word.arguments + 3) 0;
      fifth = get_or ws (word.arguments + 4) 0;
      sixth = get_or ws (word.arguments + 5) 0;
      seventh = get_or ws (word.arguments + 6) 0;
      eighth = get_or ws (word.arguments + 7) 0;
    }

-- a listed state s, with the words of its value and its statement, and its pause
unfoldable pub state_of : ℕ → ℕ → ℕ → Pause → State
state_of s a b q =
    if_eq s word.running Running (if_eq s word.finished (Finished a) (if_eq s word.stopped (Stopped a b) (Paused q)))

unfoldable pub state_in : List ℕ → State
state_in ws = state_of (get_or ws word.state 0) (get_or ws word.value 0) (get_or ws word.at 0) (pause_held ws)

unfoldable pub machine_of : List ℕ → Machine
machine_of ws =
    of_parts (state_in ws) (get_or ws word.next 0) (get_or ws word.frame 0) (get_or ws word.used 0) (get_or ws word.top 0)

-- the record that the words hold; none in fewer than 16 words, or where the state is not listed
unfoldable pub record_of : List ℕ → Option Machine
record_of ws =
    if_lt (length ws) record_size None (if_true (is_listed (get_or ws word.state 0) (get_or ws word.value 0)) (Some (machine_of ws)) None)

-- ---- the words of a record

unfoldable pub state_number : State → ℕ
state_number Running = word.running
state_number (Finished v) = word.finished
state_number (Stopped k i) = word.stopped
state_number (Paused q) = word.paused

unfoldable pub state_value : State → ℕ
state_value Running = 0
state_value (Finished v) = v
state_value (Stopped k i) = k
state_value (Paused q) = q.number

unfoldable pub state_place : State → ℕ
state_place Running = 0
state_place (Finished v) = 0
state_place (Stopped k i) = i
state_place (Paused q) = q.count

-- the pause of a paused record; zeros in every other state
unfoldable pub state_pause : State → Pause
state_pause Running = pause_of 0 []
state_pause (Finished v) = pause_of 0 []
state_pause (Stopped k i) = pause_of 0 []
state_pause (Paused q) = q

-- words 0 to 6
unfoldable pub record_words : Machine → List ℕ
record_words r =
    state_number r.state ∷ r.next ∷ r.frame ∷ r.used ∷ r.top ∷ state_value r.state ∷ state_place r.state ∷ []

-- a record written into the lent words: words 0 to 6, and 8 to 15; word 7 stays
unfoldable pub record_over : Machine → List ℕ → List ℕ
record_over r ws = store_from (store_from ws word.state (record_words r)) word.arguments (eight_words (state_pause r.state))
