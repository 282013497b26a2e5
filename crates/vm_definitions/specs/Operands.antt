-- Operands: "One statement is one step, operands left to right".
-- Assumes nothing.
use Rattle.std.specs.Prelude.{ℕ, ◌+◌, Bool, true, false, List, [], ◌∷◌, get_or, length, Option, Some, None, Result, Ok}
use Rattle.base_prelude.specs.Choice.{if_true}
use Rattle.base_limits.specs.declared.Width.{Width}
use Rattle.prog_tables.specs.declared.Operand.{Operand}
use Rattle.prog_tables.specs.declared.Operand.TheVariants.{Constant, Local, Address, AtConstant, AtLocal, AtAddress, Unlisted}
use Rattle.vm_definitions.specs.declared.Value.{Value}
use Rattle.vm_definitions.specs.Access.{as_word, word_good, load_of}

-- "An operand is an integer, a name, or `@` and one of these"
unfoldable pub is_at : Operand → Bool
is_at (Constant v) = false
is_at (Local x) = false
is_at (Address v) = false
is_at (AtConstant v) = true
is_at (AtLocal x) = true
is_at (AtAddress v) = true
is_at Unlisted = false

-- the integer, the local's word in the frame at s of a stack, or the data label's address; behind `@` it is an address. Numbers
-- that stand in a row are made words
unfoldable pub number_in : Width → List ℕ → ℕ → Operand → ℕ
number_in w st s (Constant v) = as_word w v
number_in w st s (Local x) = get_or st (s + x) 0
number_in w st s (Address v) = as_word w v
number_in w st s (AtConstant v) = as_word w v
number_in w st s (AtLocal x) = get_or st (s + x) 0
number_in w st s (AtAddress v) = as_word w v
number_in w st s Unlisted = 0

-- the word at an address, else stop 32
unfoldable pub fetch_of : Width → List ℕ → ℕ → Option ℕ
fetch_of w m a = if_true (word_good w (length m) a) (Some (load_of w m a)) None

-- an operand's word
unfoldable pub read_of : Width → List ℕ → ℕ → List ℕ → Operand → Option ℕ
read_of w st s m o = if_true (is_at o) (fetch_of w m (number_in w st s o)) (Some (number_in w st s o))

-- ---- several operands

pub data Words : Type 0 where
  words : List ℕ → Words
  bad : Words

unfoldable pub with_word : ℕ → Words → Words
with_word v (words vs) = words (v ∷ vs)
with_word v bad = bad

-- what comes of a read, where it gives a word
unfoldable pub on_read : {X : Type 0} → Option ℕ → X → (ℕ → X) → X
on_read (Some v) x g = g v
on_read None x g = x

-- all of some operands, left to right
unfoldable pub read_all : Width → List ℕ → ℕ → List ℕ → List Operand → Words
read_all w st s m [] = words []
read_all w st s m (o ∷ os) = on_read (read_of w st s m o) bad (λ v. with_word v (read_all w st s m os))

-- ---- the value of an expression

-- a value, or the number of the stop
abbrev pub Worked : Type 0
Worked = Result Value ℕ

-- a word with the auto top behind it
abbrev pub valued : ℕ → ℕ → Worked
valued v top = Ok (record { word = v; top = top })
