-- The words of the record that a host lends, and the numbers in them. Word 7 is not used.
-- Assumes nothing.
use Rattle.std.specs.Prelude.{ℕ}
use Rattle.base_limits.specs.Limits.{greatest_word}
use Rattle.c_words.specs.declared.Numbers.{Numbers}

abbrev pub state : ℕ
state = 0

-- the next statement
abbrev pub next : ℕ
next = 1

-- where the frame in use starts
abbrev pub frame : ℕ
frame = 2

-- stack words in use
abbrev pub used : ℕ
used = 3

-- the auto top
abbrev pub top : ℕ
top = 4

-- finished: the word; stopped: the number; paused: the imported name's number
abbrev pub value : ℕ
value = 5

-- stopped: the statement; paused: the number of arguments
abbrev pub at : ℕ
at = 6

-- paused: the first of eight words, the arguments and zeros
abbrev pub arguments : ℕ
arguments = 8

-- words of the whole record
abbrev pub record_size : ℕ
record_size = 16

-- ---- the states

abbrev pub running : ℕ
running = 1

abbrev pub finished : ℕ
finished = 2

abbrev pub stopped : ℕ
stopped = 3

abbrev pub paused : ℕ
paused = 4

-- ---- what an answer says of the state

-- running or stopped
abbrev pub flag_going : ℕ
flag_going = 0

abbrev pub flag_finished : ℕ
flag_finished = 1

abbrev pub flag_paused : ℕ
flag_paused = 2

-- ---- no place

abbrev pub nowhere : ℕ
nowhere = greatest_word

-- all of them, as `all_numbers` gives them
unfoldable pub numbers_of : Numbers
numbers_of =
    record {
      state = state;
      next = next;
      frame = frame;
      used = used;
      top = top;
      value = value;
      at = at;
      arguments = arguments;
      words = record_size;
      running = running;
      finished = finished;
      stopped = stopped;
      paused = paused;
      flag_going = flag_going;
      flag_finished = flag_finished;
      flag_paused = flag_paused;
      nowhere = nowhere;
    }
