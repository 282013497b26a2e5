-- Each number of specs/Numbers is that of the word whose name it has.
-- Assumes nothing.
use mathlib.Core.Path.{◌≡◌, refl}
use mathlib.Core.List.{List, [], ◌∷◌}
use Prim.Native.Nat.{ℕ}
use Rattle.base_prelude.specs.Lists.{same_list}
use Rattle.lang_words.specs.Words.{words, first_of, is_spelled, entry_named, number_of}
use Rattle.lang_words.specs.Numbers.{numbers}

-- the words in the order of their numbers
abbrev pub spellings : List (List ℕ)
spellings =
    (115 ∷ 101 ∷ 99 ∷ 116 ∷ 105 ∷ 111 ∷ 110 ∷ []) ∷  -- section
    (105 ∷ 109 ∷ 112 ∷ 111 ∷ 114 ∷ 116 ∷ []) ∷  -- import
    (101 ∷ 120 ∷ 112 ∷ 111 ∷ 114 ∷ 116 ∷ []) ∷  -- export
    (97 ∷ 108 ∷ 105 ∷ 103 ∷ 110 ∷ []) ∷  -- align
    (98 ∷ 121 ∷ 116 ∷ 101 ∷ []) ∷  -- byte
    (119 ∷ 111 ∷ 114 ∷ 100 ∷ []) ∷  -- word
    (115 ∷ 116 ∷ 114 ∷ 105 ∷ 110 ∷ 103 ∷ []) ∷  -- string
    (103 ∷ 114 ∷ 111 ∷ 117 ∷ 112 ∷ []) ∷  -- group
    (102 ∷ 117 ∷ 110 ∷ 99 ∷ 116 ∷ 105 ∷ 111 ∷ 110 ∷ []) ∷  -- function
    (98 ∷ 108 ∷ 111 ∷ 99 ∷ 107 ∷ []) ∷  -- block
    (101 ∷ 110 ∷ 100 ∷ []) ∷  -- end
    (101 ∷ 108 ∷ 115 ∷ 101 ∷ []) ∷  -- else
    (105 ∷ 102 ∷ []) ∷  -- if
    (99 ∷ 97 ∷ 108 ∷ 108 ∷ []) ∷  -- call
    (103 ∷ 111 ∷ 116 ∷ 111 ∷ []) ∷  -- goto
    (108 ∷ 101 ∷ 116 ∷ []) ∷  -- let
    (114 ∷ 101 ∷ 116 ∷ 117 ∷ 114 ∷ 110 ∷ []) ∷  -- return
    (115 ∷ 101 ∷ 116 ∷ []) ∷  -- set
    (115 ∷ 101 ∷ 116 ∷ 45 ∷ 98 ∷ 121 ∷ 116 ∷ 101 ∷ []) ∷  -- set-byte
    (115 ∷ 101 ∷ 116 ∷ 45 ∷ 119 ∷ 111 ∷ 114 ∷ 100 ∷ []) ∷  -- set-word
    (116 ∷ 97 ∷ 105 ∷ 108 ∷ 45 ∷ 99 ∷ 97 ∷ 108 ∷ 108 ∷ []) ∷  -- tail-call
    (115 ∷ 97 ∷ 118 ∷ 101 ∷ 45 ∷ 102 ∷ 114 ∷ 97 ∷ 109 ∷ 101 ∷ []) ∷  -- save-frame
    (115 ∷ 97 ∷ 118 ∷ 101 ∷ 45 ∷ 108 ∷ 111 ∷ 99 ∷ 97 ∷ 108 ∷ 115 ∷ []) ∷  -- save-locals
    (115 ∷ 97 ∷ 118 ∷ 101 ∷ 45 ∷ 102 ∷ 114 ∷ 97 ∷ 109 ∷ 101 ∷ 45 ∷ 97 ∷ 110 ∷ 100 ∷ 45 ∷ 108 ∷ 111 ∷ 99 ∷ 97 ∷ 108 ∷ 115 ∷ []) ∷  -- save-frame-and-locals
    (114 ∷ 101 ∷ 115 ∷ 116 ∷ 111 ∷ 114 ∷ 101 ∷ 45 ∷ 102 ∷ 114 ∷ 97 ∷ 109 ∷ 101 ∷ []) ∷  -- restore-frame
    (114 ∷ 101 ∷ 115 ∷ 116 ∷ 111 ∷ 114 ∷ 101 ∷ 45 ∷ 108 ∷ 111 ∷ 99 ∷ 97 ∷ 108 ∷ 115 ∷ []) ∷  -- restore-locals
    (105 ∷ 102 ∷ 101 ∷ 113 ∷ []) ∷  -- ifeq
    (105 ∷ 102 ∷ 103 ∷ 101 ∷ []) ∷  -- ifge
    (105 ∷ 102 ∷ 103 ∷ 116 ∷ []) ∷  -- ifgt
    (105 ∷ 102 ∷ 108 ∷ 101 ∷ []) ∷  -- ifle
    (105 ∷ 102 ∷ 108 ∷ 116 ∷ []) ∷  -- iflt
    (105 ∷ 102 ∷ 110 ∷ 101 ∷ []) ∷  -- ifne
    (97 ∷ 100 ∷ 100 ∷ []) ∷  -- add
    (97 ∷ 110 ∷ 100 ∷ []) ∷  -- and
    (97 ∷ 115 ∷ 114 ∷ []) ∷  -- asr
    (97 ∷ 117 ∷ 116 ∷ 111 ∷ 45 ∷ 98 ∷ 121 ∷ 116 ∷ 101 ∷ 115 ∷ []) ∷  -- auto-bytes
    (97 ∷ 117 ∷ 116 ∷ 111 ∷ 45 ∷ 119 ∷ 111 ∷ 114 ∷ 100 ∷ 115 ∷ []) ∷  -- auto-words
    (98 ∷ 115 ∷ 114 ∷ []) ∷  -- bsr
    (100 ∷ 105 ∷ 118 ∷ []) ∷  -- div
    (103 ∷ 101 ∷ 116 ∷ 45 ∷ 98 ∷ 121 ∷ 116 ∷ 101 ∷ []) ∷  -- get-byte
    (103 ∷ 101 ∷ 116 ∷ 45 ∷ 119 ∷ 111 ∷ 114 ∷ 100 ∷ []) ∷  -- get-word
    (109 ∷ 111 ∷ 100 ∷ []) ∷  -- mod
    (109 ∷ 117 ∷ 108 ∷ []) ∷  -- mul
    (110 ∷ 111 ∷ 116 ∷ []) ∷  -- not
    (111 ∷ 114 ∷ []) ∷  -- or
    (114 ∷ 111 ∷ 108 ∷ []) ∷  -- rol
    (114 ∷ 111 ∷ 114 ∷ []) ∷  -- ror
    (115 ∷ 104 ∷ 108 ∷ []) ∷  -- shl
    (115 ∷ 104 ∷ 114 ∷ []) ∷  -- shr
    (115 ∷ 117 ∷ 98 ∷ []) ∷  -- sub
    (120 ∷ 111 ∷ 114 ∷ []) ∷  -- xor
    []

abbrev pub numbered : List (List ℕ) → List ℕ
numbered [] = []
numbered (w ∷ ws) = number_of w ∷ numbered ws

pub names-right : numbered spellings ≡ numbers
unfolding words first_of is_spelled entry_named number_of numbers same_list
names-right = refl
