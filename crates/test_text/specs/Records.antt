-- A record that a line changes.
-- Assumes nothing.
use Rattle.std.specs.Prelude.{ℕ, ◌%◌, Bool, true, false, List, [], ◌∷◌}
use Rattle.base_prelude.specs.Choice.{if_lt, if_true}
use Rattle.base_limits.specs.declared.State.{State}
use Rattle.base_limits.specs.declared.State.TheVariants.{Running, Finished, Stopped, Paused}
use Rattle.base_limits.specs.declared.Pause.{Pause}
use Rattle.base_limits.specs.declared.Machine.{Machine}
use Rattle.base_limits.specs.Record.{moved_to, with_state}
use Rattle.test_lines.specs.Fields.{no_number}
use Rattle.test_text.specs.Fields.{count_fields, has_word}
use Rattle.test_text.specs.Numbers.{field_value, field_word, are_values, has_values}

-- `next `
abbrev pub next_word : List ℕ
next_word = 110 ∷ 101 ∷ 120 ∷ 116 ∷ 32 ∷ []

-- `frame `
abbrev pub frame-word : List ℕ
frame-word = 102 ∷ 114 ∷ 97 ∷ 109 ∷ 101 ∷ 32 ∷ []

-- `used `
abbrev pub used-word : List ℕ
used-word = 117 ∷ 115 ∷ 101 ∷ 100 ∷ 32 ∷ []

-- `top `
abbrev pub top-word : List ℕ
top-word = 116 ∷ 111 ∷ 112 ∷ 32 ∷ []

-- `state 0`
abbrev pub running-word : List ℕ
running-word = 115 ∷ 116 ∷ 97 ∷ 116 ∷ 101 ∷ 32 ∷ 48 ∷ []

-- `finished `
abbrev pub finished-word : List ℕ
finished-word = 102 ∷ 105 ∷ 110 ∷ 105 ∷ 115 ∷ 104 ∷ 101 ∷ 100 ∷ 32 ∷ []

-- `stopped `
abbrev pub stopped-word : List ℕ
stopped-word = 115 ∷ 116 ∷ 111 ∷ 112 ∷ 112 ∷ 101 ∷ 100 ∷ 32 ∷ []

-- `paused `
abbrev pub paused-word : List ℕ
paused-word = 112 ∷ 97 ∷ 117 ∷ 115 ∷ 101 ∷ 100 ∷ 32 ∷ []

-- one of its numbers
unfoldable pub poke_number : List ℕ → Machine → Machine
poke_number l r =
    if_true (has_word l 2 next_word) (moved_to r (field_value l 3 % no_number) r.frame r.used r.top)
    (if_true (has_word l 2 frame-word) (moved_to r r.next (field_value l 3 % no_number) r.used r.top)
    (if_true (has_word l 2 used-word) (moved_to r r.next r.frame (field_value l 3 % no_number) r.top)
    (if_true (has_word l 2 top-word) (moved_to r r.next r.frame r.used (field_value l 3 % no_number)) r)))

-- a pause: its number, its argument count, and up to eight words, 0 beyond them
unfoldable pub pause_poked : List ℕ → Pause
pause_poked l =
    record {
      number = field_word l 3;
      count = field_word l 4;
      first = field_word l 5;
      second = field_word l 6;
      third = field_word l 7;
      fourth = field_word l 8;
      fifth = field_word l 9;
      sixth = field_word l 10;
      seventh = field_word l 11;
      eighth = field_word l 12;
    }

-- whether a line has a pause: numbers, at most eight words
unfoldable pub is_pause_poke : List ℕ → Bool
is_pause_poke l = if_lt 13 (count_fields l) false (are_values l 3 (count_fields l))

-- its state
unfoldable pub poke_state : List ℕ → Machine → Machine
poke_state l r =
    if_true (has_word l 2 finished-word) (with_state (Finished (field_value l 3 % no_number)) r)
    (if_true (has_word l 2 stopped-word) (with_state (Stopped (field_value l 3 % no_number) (field_value l 4 % no_number)) r)
    (if_true (has_word l 2 paused-word) (with_state (Paused (pause_poked l)) r)
    (with_state Running r)))

-- whether a line names a number of the record
unfoldable pub is_number_poke : List ℕ → Bool
is_number_poke l =
    if_true (has_word l 2 next_word) true
    (if_true (has_word l 2 frame-word) true (if_true (has_word l 2 used-word) true (has_word l 2 top-word)))

-- whether a line names a state of the record
unfoldable pub is_state_poke : List ℕ → Bool
is_state_poke l =
    if_true (has_word l 2 running-word) (has_values l 3 4)
    (if_true (has_word l 2 finished-word) (has_values l 3 4)
    (if_true (has_word l 2 stopped-word) (has_values l 3 5) (if_true (has_word l 2 paused-word) (is_pause_poke l) false)))

-- whether a line changes a record
unfoldable pub is_record_poke : List ℕ → Bool
is_record_poke l = if_true (is_state_poke l) true (if_true (is_number_poke l) (has_values l 3 4) false)

-- a record as a line changes it
unfoldable pub poke_record : List ℕ → Machine → Machine
poke_record l r = if_true (is_state_poke l) (poke_state l r) (poke_number l r)
