-- The run record, built by these definitions alone: "state (running; finished with a word; stopped with number and statement; paused with the
-- imported name's number and its arguments), next statement, start of the frame in use, stack words in use, auto top".
-- Assumes nothing.
use Rattle.std.specs.Prelude.{ℕ, ◌-◌, ◌^◌, List, [], ◌∷◌, length, get_or, take}
use Rattle.base_limits.specs.Width.{bits_of}
use Rattle.base_limits.specs.declared.Width.{Width}
use Rattle.base_limits.specs.declared.State.{State}
use Rattle.base_limits.specs.declared.State.TheVariants.{Running, Finished, Stopped}
use Rattle.base_limits.specs.declared.Pause.{Pause}
use Rattle.base_limits.specs.declared.Machine.{Machine}

-- no statement, no frame: "both 4294967295 for the first"
unfoldable pub mark : Width → ℕ
mark w = 2 ^ bits_of w - 1

-- running, at the statement `next`, its first frame of `size` words at 0, the auto top `top`
unfoldable pub fresh_of : ℕ → ℕ → ℕ → Machine
fresh_of next size top = record { state = Running; next = next; frame = 0; used = size; top = top }

-- going on at statement n with an auto top
unfoldable pub going_on : Machine → ℕ → ℕ → Machine
going_on r n top = record { state = r.state; next = n; frame = r.frame; used = r.used; top = top }

-- in another frame
unfoldable pub moved_to : Machine → ℕ → ℕ → ℕ → ℕ → Machine
moved_to r n frame used top = record { state = r.state; next = n; frame = frame; used = used; top = top }

-- finished with a word: no stack words in use, no statement, no frame
unfoldable pub ended : Width → ℕ → ℕ → Machine
ended w v top = record { state = Finished v; next = mark w; frame = mark w; used = 0; top = top }

-- stopped at its statement
unfoldable pub stopped : Machine → ℕ → Machine
stopped r k = record { state = Stopped k r.next; next = r.next; frame = r.frame; used = r.used; top = r.top }

-- in another state
unfoldable pub with_state : State → Machine → Machine
with_state s r = record { state = s; next = r.next; frame = r.frame; used = r.used; top = r.top }

-- read back from its parts
unfoldable pub of_parts : State → ℕ → ℕ → ℕ → ℕ → Machine
of_parts s next frame used top = record { state = s; next = next; frame = frame; used = used; top = top }

-- ---- pauses

-- "pauses the run with the name's number and its arguments" (02, 3): at most eight words, 0 beyond them
unfoldable pub pause_of : ℕ → List ℕ → Pause
pause_of n vs =
    record {
      number = n;
      count = length vs;
      first = get_or vs 0 0;
      second = get_or vs 1 0;
      third = get_or vs 2 0;
      fourth = get_or vs 3 0;
      fifth = get_or vs 4 0;
      sixth = get_or vs 5 0;
      seventh = get_or vs 6 0;
      eighth = get_or vs 7 0;
    }

-- the eight words that a pause holds
unfoldable pub eight_words : Pause → List ℕ
eight_words q = q.first ∷ q.second ∷ q.third ∷ q.fourth ∷ q.fifth ∷ q.sixth ∷ q.seventh ∷ q.eighth ∷ []

-- the arguments of a pause
unfoldable pub paused_words : Pause → List ℕ
paused_words q = take q.count (eight_words q)
