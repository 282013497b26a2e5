-- The substitutes that have a name: the two of 01 that are integers, and the one left out.
-- Assumes nothing.
use Rattle.std.specs.Prelude.{ℕ, List, [], ◌∷◌}
use Rattle.base_prelude.specs.Choice.{if_true}
use Rattle.base_prelude.specs.Lists.{same_list}

-- bits-per-word
abbrev pub bits-per-word : List ℕ
bits-per-word = 98 ∷ 105 ∷ 116 ∷ 115 ∷ 45 ∷ 112 ∷ 101 ∷ 114 ∷ 45 ∷ 119 ∷ 111 ∷ 114 ∷ 100 ∷ []

abbrev pub bits_per_word : ℕ
bits_per_word = 1

-- bytes-per-word
abbrev pub bytes-per-word : List ℕ
bytes-per-word = 98 ∷ 121 ∷ 116 ∷ 101 ∷ 115 ∷ 45 ∷ 112 ∷ 101 ∷ 114 ∷ 45 ∷ 119 ∷ 111 ∷ 114 ∷ 100 ∷ []

abbrev pub bytes_per_word : ℕ
bytes_per_word = 2

-- saved-frame-size
abbrev pub saved-frame-size : List ℕ
saved-frame-size = 115 ∷ 97 ∷ 118 ∷ 101 ∷ 100 ∷ 45 ∷ 102 ∷ 114 ∷ 97 ∷ 109 ∷ 101 ∷ 45 ∷ 115 ∷ 105 ∷ 122 ∷ 101 ∷ []

abbrev pub saved_frame_size : ℕ
saved_frame_size = 3

-- the number of a substitute, 0 for any other name
unfoldable pub substitute_of : List ℕ → ℕ
substitute_of name =
    if_true (same_list name bits-per-word) bits_per_word
    (if_true (same_list name bytes-per-word) bytes_per_word
    (if_true (same_list name saved-frame-size) saved_frame_size 0))
