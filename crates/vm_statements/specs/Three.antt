-- The three operands of `set-byte` and `set-word`.
-- Assumes nothing.
use Rattle.std.specs.Prelude.{ℕ, List, [], ◌∷◌, Option, Some, None}
use Rattle.vm_definitions.specs.Operands.{Words, words, bad}
use Rattle.vm_statements.specs.declared.Store.{Store}

-- base, offset and value, where all were read
abbrev pub store : ℕ → ℕ → ℕ → Option Store
store b o v = Some (record { base = b; offset = o; value = v })

unfoldable pub three_words : Option Store → Words
three_words (Some x) = words (x.base ∷ x.offset ∷ x.value ∷ [])
three_words None = bad
