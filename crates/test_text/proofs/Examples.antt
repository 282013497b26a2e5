-- Numbers and answers as they stand in a case file, computed from their definitions.
-- Assumes nothing.
use Rattle.std.proofs.Common.{◌≡◌, ℕ, Bool, true, false, List, [], ◌∷◌, refl, Err}
use Rattle.base_prelude.specs.Choice.{if_lt, if_eq, if_true}
use Rattle.base_prelude.specs.Bytes.{byte_at}
use Rattle.base_prelude.specs.Walk.{walk}
use Rattle.base_limits.specs.declared.State.{State}
use Rattle.base_limits.specs.declared.State.TheVariants.{Running, Finished, Stopped, Paused}
use Rattle.base_limits.specs.Record.{of_parts, pause_of, eight_words, paused_words}
use Rattle.vm_definitions.specs.declared.Broken.{Broken}
use Rattle.vm_definitions.specs.declared.Broken.TheVariants.{No, At, Somewhere}
use Rattle.vm_definitions.specs.declared.StartError.TheVariants.{Refused}
use Rattle.vm_definitions.specs.declared.Outcome.{Outcome}
use Rattle.vm_definitions.specs.declared.Resumed.{Resumed}
use Rattle.app_page.specs.Bytes.{digits_within, decimal, field}
use Rattle.test_lines.specs.Lines.{one_more, byte_step, byte_place}
use Rattle.test_lines.specs.Fields.{field_step, field_start, with_digit, digit_step, number_from, number_at, field_of}
use Rattle.test_text.specs.Fields.{count_step, count_fields, word_end, raw_at}
use Rattle.test_text.specs.Numbers.{negated_of, field_value}
use Rattle.test_text.specs.Answers.{error_bytes, field_bytes, fields_from, plain_bytes, broken_bytes, started_bytes, counted_bytes, stopped_bytes, finished_bytes, list_bytes, paused_bytes, state_bytes, unsound_bytes, outcome_bytes, resumed_bytes}

outcome : State → ℕ → Broken → Outcome
outcome state count broken =
    record { machine = of_parts state 1 0 6 4; count = count; broken = broken }

-- `refused 23`
refused-23 : started_bytes (Err (Refused 23)) ≡ 114 ∷ 101 ∷ 102 ∷ 117 ∷ 115 ∷ 101 ∷ 100 ∷ 32 ∷ 50 ∷ 51 ∷ []
unfolding if_lt digits_within decimal field started_bytes error_bytes
refused-23 = refl

-- `going 7`
going-7 : outcome_bytes (outcome Running 7 No) ≡ 103 ∷ 111 ∷ 105 ∷ 110 ∷ 103 ∷ 32 ∷ 55 ∷ []
unfolding if_lt digits_within decimal field broken_bytes counted_bytes stopped_bytes finished_bytes paused_bytes state_bytes unsound_bytes outcome_bytes outcome of_parts
going-7 = refl

-- `finished 3 42`
finished-42 : outcome_bytes (outcome (Finished 42) 3 No) ≡ 102 ∷ 105 ∷ 110 ∷ 105 ∷ 115 ∷ 104 ∷ 101 ∷ 100 ∷ 32 ∷ 51 ∷ 32 ∷ 52 ∷ 50 ∷ []
unfolding if_lt digits_within decimal field broken_bytes counted_bytes stopped_bytes finished_bytes paused_bytes state_bytes unsound_bytes outcome_bytes outcome of_parts
finished-42 = refl

-- `stopped 0 32 1`
stopped-32 : outcome_bytes (outcome (Stopped 32 1) 0 No) ≡ 115 ∷ 116 ∷ 111 ∷ 112 ∷ 112 ∷ 101 ∷ 100 ∷ 32 ∷ 48 ∷ 32 ∷ 51 ∷ 50 ∷ 32 ∷ 49 ∷ []
unfolding if_lt digits_within decimal field broken_bytes counted_bytes stopped_bytes finished_bytes paused_bytes state_bytes unsound_bytes outcome_bytes outcome of_parts
stopped-32 = refl

-- `broken 5 12`
broken-row : outcome_bytes (outcome Running 5 (At 12)) ≡ 98 ∷ 114 ∷ 111 ∷ 107 ∷ 101 ∷ 110 ∷ 32 ∷ 53 ∷ 32 ∷ 49 ∷ 50 ∷ []
unfolding if_lt digits_within decimal field broken_bytes counted_bytes stopped_bytes finished_bytes paused_bytes state_bytes unsound_bytes outcome_bytes outcome of_parts
broken-row = refl

-- `broken 0 none`
broken-nowhere : outcome_bytes (outcome Running 0 Somewhere) ≡ 98 ∷ 114 ∷ 111 ∷ 107 ∷ 101 ∷ 110 ∷ 32 ∷ 48 ∷ 32 ∷ 110 ∷ 111 ∷ 110 ∷ 101 ∷ []
unfolding if_lt digits_within decimal field broken_bytes counted_bytes stopped_bytes finished_bytes paused_bytes state_bytes unsound_bytes outcome_bytes outcome of_parts
broken-nowhere = refl

-- `paused 2 1 7 9`
paused-order : outcome_bytes (outcome (Paused (pause_of 1 (7 ∷ 9 ∷ []))) 2 No) ≡ 112 ∷ 97 ∷ 117 ∷ 115 ∷ 101 ∷ 100 ∷ 32 ∷ 50 ∷ 32 ∷ 49 ∷ 32 ∷ 55 ∷ 32 ∷ 57 ∷ []
unfolding if_lt digits_within decimal field broken_bytes counted_bytes stopped_bytes finished_bytes list_bytes paused_bytes state_bytes unsound_bytes outcome_bytes outcome of_parts pause_of eight_words paused_words
paused-order = refl

resumed : Bool → Resumed
resumed unpaused = record { outcome = outcome Running 1 No; unpaused = unpaused }

-- `refused 37`
refused-37 : resumed_bytes (resumed true) ≡ 114 ∷ 101 ∷ 102 ∷ 117 ∷ 115 ∷ 101 ∷ 100 ∷ 32 ∷ 51 ∷ 55 ∷ []
unfolding if_lt if_true digits_within decimal field broken_bytes started_bytes error_bytes counted_bytes stopped_bytes finished_bytes paused_bytes state_bytes unsound_bytes outcome_bytes resumed_bytes outcome resumed of_parts
refused-37 = refl

-- `going 1`
resumed-going : resumed_bytes (resumed false) ≡ 103 ∷ 111 ∷ 105 ∷ 110 ∷ 103 ∷ 32 ∷ 49 ∷ []
unfolding if_lt if_true digits_within decimal field broken_bytes started_bytes error_bytes counted_bytes stopped_bytes finished_bytes paused_bytes state_bytes unsound_bytes outcome_bytes resumed_bytes outcome resumed of_parts
resumed-going = refl

-- `run -1`, its field 1
minus_one : field_value (114 ∷ 117 ∷ 110 ∷ 32 ∷ 45 ∷ 49 ∷ []) 1 ≡ 4294967295
unfolding if_lt if_eq byte_at walk one_more field_step field_start with_digit digit_step number_from number_at field_of negated_of field_value
minus_one = refl

-- `finished 3 -2` is `finished 3 4294967294`
plain-minus : plain_bytes (102 ∷ 105 ∷ 110 ∷ 105 ∷ 115 ∷ 104 ∷ 101 ∷ 100 ∷ 32 ∷ 51 ∷ 32 ∷ 45 ∷ 50 ∷ []) ≡ 102 ∷ 105 ∷ 110 ∷ 105 ∷ 115 ∷ 104 ∷ 101 ∷ 100 ∷ 32 ∷ 51 ∷ 32 ∷ 52 ∷ 50 ∷ 57 ∷ 52 ∷ 57 ∷ 54 ∷ 55 ∷ 50 ∷ 57 ∷ 52 ∷ []
unfolding if_lt if_eq byte_at walk one_more field_step field_start with_digit digit_step number_from number_at field_of negated_of field_value digits_within decimal count_step count_fields byte_step byte_place word_end raw_at field_bytes fields_from plain_bytes
plain-minus = refl
