-- The 51 reserved words of 000, 001 and 01: the one table. A word is given by its bytes; it has a number of its own, which is not its
-- place in the table, and the least and the most operand tokens that may follow it on its line. The most of a line that ends in
-- parameters or arguments follows from their limit: `call` and the function's name, `return call`, `let x call` and `set x call` before
-- them. So it is with the locals that `save-locals` names.
-- Assumes nothing.
use Rattle.std.specs.Prelude.{ℕ, ◌+◌, Bool, List, [], ◌∷◌, eqb}
use Rattle.base_prelude.specs.Choice.{pick}
use Rattle.base_prelude.specs.Lists.{same_list}
use Rattle.base_limits.specs.Limits as limits
use Rattle.lang_words.specs.Numbers as word

pub record Entry : Type 0 where
  pub letters : List ℕ
  pub number : ℕ
  pub least : ℕ
  pub most : ℕ

abbrev pub entry : List ℕ → ℕ → ℕ → ℕ → Entry
entry letters number least most = record { letters = letters; number = number; least = least; most = most }

-- no word
abbrev pub nothing : Entry
nothing = entry [] 0 0 0

unfoldable pub words : List Entry
words =
    entry (115 ∷ 101 ∷ 99 ∷ 116 ∷ 105 ∷ 111 ∷ 110 ∷ []) word.section 1 1 ∷  -- section
    entry (105 ∷ 109 ∷ 112 ∷ 111 ∷ 114 ∷ 116 ∷ []) word.import 1 1 ∷  -- import
    entry (101 ∷ 120 ∷ 112 ∷ 111 ∷ 114 ∷ 116 ∷ []) word.export 1 1 ∷  -- export
    entry (97 ∷ 108 ∷ 105 ∷ 103 ∷ 110 ∷ []) word.align 0 1 ∷  -- align
    entry (98 ∷ 121 ∷ 116 ∷ 101 ∷ []) word.byte 1 1 ∷  -- byte
    entry (119 ∷ 111 ∷ 114 ∷ 100 ∷ []) word.word 1 1 ∷  -- word
    entry (115 ∷ 116 ∷ 114 ∷ 105 ∷ 110 ∷ 103 ∷ []) word.string 1 1 ∷  -- string
    entry (103 ∷ 114 ∷ 111 ∷ 117 ∷ 112 ∷ []) word.group 0 0 ∷  -- group
    entry (102 ∷ 117 ∷ 110 ∷ 99 ∷ 116 ∷ 105 ∷ 111 ∷ 110 ∷ []) word.function 0 limits.parameters ∷  -- function
    entry (98 ∷ 108 ∷ 111 ∷ 99 ∷ 107 ∷ []) word.block 0 0 ∷  -- block
    entry (101 ∷ 110 ∷ 100 ∷ []) word.end 1 1 ∷  -- end
    entry (101 ∷ 108 ∷ 115 ∷ 101 ∷ []) word.else 0 3 ∷  -- else
    entry (105 ∷ 102 ∷ []) word.if 0 0 ∷  -- if
    entry (99 ∷ 97 ∷ 108 ∷ 108 ∷ []) word.call 1 (limits.parameters + 1) ∷  -- call
    entry (103 ∷ 111 ∷ 116 ∷ 111 ∷ []) word.goto 1 1 ∷  -- goto
    entry (108 ∷ 101 ∷ 116 ∷ []) word.let_local 2 (limits.parameters + 3) ∷  -- let
    entry (114 ∷ 101 ∷ 116 ∷ 117 ∷ 114 ∷ 110 ∷ []) word.return 0 (limits.parameters + 2) ∷  -- return
    entry (115 ∷ 101 ∷ 116 ∷ []) word.set 2 (limits.parameters + 3) ∷  -- set
    entry (115 ∷ 101 ∷ 116 ∷ 45 ∷ 98 ∷ 121 ∷ 116 ∷ 101 ∷ []) word.set_byte 3 3 ∷  -- set-byte
    entry (115 ∷ 101 ∷ 116 ∷ 45 ∷ 119 ∷ 111 ∷ 114 ∷ 100 ∷ []) word.set_word 3 3 ∷  -- set-word
    entry (116 ∷ 97 ∷ 105 ∷ 108 ∷ 45 ∷ 99 ∷ 97 ∷ 108 ∷ 108 ∷ []) word.tail_call 1 (limits.parameters + 1) ∷  -- tail-call
    entry (115 ∷ 97 ∷ 118 ∷ 101 ∷ 45 ∷ 102 ∷ 114 ∷ 97 ∷ 109 ∷ 101 ∷ []) word.save_frame 1 1 ∷  -- save-frame
    entry (115 ∷ 97 ∷ 118 ∷ 101 ∷ 45 ∷ 108 ∷ 111 ∷ 99 ∷ 97 ∷ 108 ∷ 115 ∷ []) word.save_locals 1 (limits.locals + 1) ∷  -- save-locals
    entry (115 ∷ 97 ∷ 118 ∷ 101 ∷ 45 ∷ 102 ∷ 114 ∷ 97 ∷ 109 ∷ 101 ∷ 45 ∷ 97 ∷ 110 ∷ 100 ∷ 45 ∷ 108 ∷ 111 ∷ 99 ∷ 97 ∷ 108 ∷ 115 ∷ []) word.save_frame_and_locals 1 (limits.locals + 1) ∷  -- save-frame-and-locals
    entry (114 ∷ 101 ∷ 115 ∷ 116 ∷ 111 ∷ 114 ∷ 101 ∷ 45 ∷ 102 ∷ 114 ∷ 97 ∷ 109 ∷ 101 ∷ []) word.restore_frame 1 1 ∷  -- restore-frame
    entry (114 ∷ 101 ∷ 115 ∷ 116 ∷ 111 ∷ 114 ∷ 101 ∷ 45 ∷ 108 ∷ 111 ∷ 99 ∷ 97 ∷ 108 ∷ 115 ∷ []) word.restore_locals 1 (limits.locals + 1) ∷  -- restore-locals
    entry (105 ∷ 102 ∷ 101 ∷ 113 ∷ []) word.ifeq 2 2 ∷  -- ifeq
    entry (105 ∷ 102 ∷ 103 ∷ 101 ∷ []) word.ifge 2 2 ∷  -- ifge
    entry (105 ∷ 102 ∷ 103 ∷ 116 ∷ []) word.ifgt 2 2 ∷  -- ifgt
    entry (105 ∷ 102 ∷ 108 ∷ 101 ∷ []) word.ifle 2 2 ∷  -- ifle
    entry (105 ∷ 102 ∷ 108 ∷ 116 ∷ []) word.iflt 2 2 ∷  -- iflt
    entry (105 ∷ 102 ∷ 110 ∷ 101 ∷ []) word.ifne 2 2 ∷  -- ifne
    entry (97 ∷ 100 ∷ 100 ∷ []) word.add 2 2 ∷  -- add
    entry (97 ∷ 110 ∷ 100 ∷ []) word.and 2 2 ∷  -- and
    entry (97 ∷ 115 ∷ 114 ∷ []) word.asr 2 2 ∷  -- asr
    entry (97 ∷ 117 ∷ 116 ∷ 111 ∷ 45 ∷ 98 ∷ 121 ∷ 116 ∷ 101 ∷ 115 ∷ []) word.auto_bytes 1 1 ∷  -- auto-bytes
    entry (97 ∷ 117 ∷ 116 ∷ 111 ∷ 45 ∷ 119 ∷ 111 ∷ 114 ∷ 100 ∷ 115 ∷ []) word.auto_words 1 1 ∷  -- auto-words
    entry (98 ∷ 115 ∷ 114 ∷ []) word.bsr 2 2 ∷  -- bsr
    entry (100 ∷ 105 ∷ 118 ∷ []) word.div 2 2 ∷  -- div
    entry (103 ∷ 101 ∷ 116 ∷ 45 ∷ 98 ∷ 121 ∷ 116 ∷ 101 ∷ []) word.get_byte 2 2 ∷  -- get-byte
    entry (103 ∷ 101 ∷ 116 ∷ 45 ∷ 119 ∷ 111 ∷ 114 ∷ 100 ∷ []) word.get_word 2 2 ∷  -- get-word
    entry (109 ∷ 111 ∷ 100 ∷ []) word.modulo 2 2 ∷  -- mod
    entry (109 ∷ 117 ∷ 108 ∷ []) word.mul 2 2 ∷  -- mul
    entry (110 ∷ 111 ∷ 116 ∷ []) word.not 1 1 ∷  -- not
    entry (111 ∷ 114 ∷ []) word.or 2 2 ∷  -- or
    entry (114 ∷ 111 ∷ 108 ∷ []) word.rol 2 2 ∷  -- rol
    entry (114 ∷ 111 ∷ 114 ∷ []) word.ror 2 2 ∷  -- ror
    entry (115 ∷ 104 ∷ 108 ∷ []) word.shl 2 2 ∷  -- shl
    entry (115 ∷ 104 ∷ 114 ∷ []) word.shr 2 2 ∷  -- shr
    entry (115 ∷ 117 ∷ 98 ∷ []) word.sub 2 2 ∷  -- sub
    entry (120 ∷ 111 ∷ 114 ∷ []) word.xor 2 2 ∷  -- xor
    []

-- the first entry that passes a test
unfoldable pub first_of : (Entry → Bool) → List Entry → Entry
first_of test [] = nothing
first_of test (e ∷ es) = pick (test e) e (first_of test es)

unfoldable pub is_spelled : List ℕ → Entry → Bool
is_spelled name e = same_list name e.letters

unfoldable pub is_number : ℕ → Entry → Bool
is_number n e = eqb e.number n

-- the entry with exactly these letters
unfoldable pub entry_named : List ℕ → Entry
entry_named name = first_of (is_spelled name) words

-- the entry with this number
unfoldable pub entry_of : ℕ → Entry
entry_of n = first_of (is_number n) words

-- the number of a word, 0 where the name is no word
unfoldable pub number_of : List ℕ → ℕ
number_of name = (entry_named name).number

-- the operand tokens of the word with this number, 0 where there is none
unfoldable pub least_operands : ℕ → ℕ
least_operands n = (entry_of n).least

unfoldable pub most_operands : ℕ → ℕ
most_operands n = (entry_of n).most
