-- The identifiers of sections (000, 'Sections'). They are not reserved; their numbers follow those of the reserved words.
-- Assumes nothing.
use Rattle.std.specs.Prelude.{ℕ, List, [], ◌∷◌}
use Rattle.base_prelude.specs.Choice.{if_eq, if_true}
use Rattle.base_prelude.specs.Lists.{same_list}
use Rattle.lang_words.specs.Numbers as word
use Rattle.lang_words.specs.Words.{number_of}

-- data
abbrev pub data-name : List ℕ
data-name = 100 ∷ 97 ∷ 116 ∷ 97 ∷ []

-- functions
abbrev pub functions-name : List ℕ
functions-name = 102 ∷ 117 ∷ 110 ∷ 99 ∷ 116 ∷ 105 ∷ 111 ∷ 110 ∷ 115 ∷ []

-- code
abbrev pub code-name : List ℕ
code-name = 99 ∷ 111 ∷ 100 ∷ 101 ∷ []

unfoldable pub section_of : List ℕ → ℕ
section_of name =
    if_true (same_list name data-name) word.data_section
    (if_true (same_list name functions-name) word.functions_section
    (if_true (same_list name code-name) word.code_section 0))

-- the number of a reserved word or of a section's identifier, 0 for any other name
unfoldable pub known_of : List ℕ → ℕ
known_of name = if_eq (number_of name) 0 (section_of name) (number_of name)
