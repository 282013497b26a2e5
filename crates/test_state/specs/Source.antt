-- The source of a case, line by line; `body` lines stand in a function.
-- Assumes nothing.
use Rattle.std.specs.Prelude.{ℕ, true, false, List, [], ◌∷◌}
use Rattle.base_prelude.specs.Choice.{if_lt, if_true}
use Rattle.test_lines.specs.Lines.{starts_with}
use Rattle.test_lines.specs.Sources.{Source, source, add_text, add_line, add_source}
use Rattle.test_state.specs.declared.Fault.TheVariants.{BadLine}
use Rattle.test_state.specs.declared.Progress.{Progress}
use Rattle.test_state.specs.Progress.{On, on, failed_of, sized_of, bodied_of}

-- `body `
abbrev pub body-word : List ℕ
body-word = 98 ∷ 111 ∷ 100 ∷ 121 ∷ 32 ∷ []

-- what stands before a body
abbrev pub body-head : List ℕ
body-head = 115 ∷ 101 ∷ 99 ∷ 116 ∷ 105 ∷ 111 ∷ 110 ∷ 32 ∷ 102 ∷ 117 ∷ 110 ∷ 99 ∷ 116 ∷ 105 ∷ 111 ∷ 110 ∷ 115 ∷ 126 ∷ 48 ∷ 97 ∷ 101 ∷ 120 ∷ 112 ∷ 111 ∷ 114 ∷ 116 ∷ 32 ∷ 102 ∷ 126 ∷ 48 ∷ 97 ∷ 102 ∷ 58 ∷ 32 ∷ 102 ∷ 117 ∷ 110 ∷ 99 ∷ 116 ∷ 105 ∷ 111 ∷ 110 ∷ 126 ∷ 48 ∷ 97 ∷ []

-- what stands behind a body
abbrev pub body_end : List ℕ
body_end = 101 ∷ 110 ∷ 100 ∷ 32 ∷ 102 ∷ 117 ∷ 110 ∷ 99 ∷ 116 ∷ 105 ∷ 111 ∷ 110 ∷ 126 ∷ 48 ∷ 97 ∷ []

-- a source of a new size; it stands before the first call
unfoldable pub with_size : Progress → ℕ → Progress
with_size q size =
    if_true q.is_checked (failed_of q BadLine)
    (if_lt size 16401 (sized_of q size)
    (failed_of q BadLine))

-- a progress beside a source, which is its new source
abbrev pub sourced : Progress → Source → On
sourced q s = on (with_size q s.size) s.text

-- the function around a body begins
unfoldable pub open_body : Progress → List ℕ → On
open_body q text =
    if_true q.is_body (on q text)
    (sourced (bodied_of q true) (add_text body-head 0 (source q.size text)))

-- the function around a body ends
unfoldable pub close_body : Progress → List ℕ → On
close_body q text =
    if_true q.is_body (sourced (bodied_of q false) (add_text body_end 0 (source q.size text)))
    (on q text)

-- a line of a body, behind what stands before it
abbrev pub body_by : List ℕ → On → On
body_by l x = sourced x.progress (add_line l 5 (source x.progress.size x.buffer))

-- `body BYTES`
unfoldable pub read_body : List ℕ → Progress → List ℕ → On
read_body l q text = body_by l (open_body q text)

-- a line of the source
unfoldable pub read_source : List ℕ → Progress → List ℕ → On
read_source l q text =
    if_true q.is_checked (on (failed_of q BadLine) text)
    (if_true (starts_with l body-word) (read_body l q text)
    (sourced q (add_source l (source q.size text))))
