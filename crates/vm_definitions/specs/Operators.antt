-- The operators in one table: what each gives of two words, and what it meets with them. The two columns have their arithmetic apart.
-- Assumes nothing.
use Rattle.std.specs.Prelude.{Err, None, Ok, Option, Some}
use Rattle.vm_definitions.specs.Operands.{Worked, valued}
use Rattle.std.specs.Prelude.{ℕ, ◌+◌, ◌-◌, ◌*◌, ◌/◌, List, [], ◌∷◌, get_or, length}
use Rattle.base_prelude.specs.Choice.{if_lt, if_eq, if_true}
use Rattle.base_limits.specs.Width.{bits_of, bytes_of}
use Rattle.base_limits.specs.declared.Width.{Width}
use Rattle.base_word.specs.Word.{stop_of, add_of, sub_of, mul_of, div_of, mod_of, and_of, or_of, xor_of, not_of, shl_of, shr_of, bsr_of, asr_of, rol_of, ror_of}
use Rattle.base_word.specs.Word.{Answer}
use Rattle.lang_words.specs.Numbers as op
use Rattle.prog_tables.specs.Layout.{no_expression}
use Rattle.vm_definitions.specs.Access.{byte_address, word_address, byte_good}
use Rattle.vm_definitions.specs.Operands.{fetch_of}

-- ---- what an operator gives

-- "round the auto top up to a multiple of 4"
unfoldable pub round_up : Width → ℕ → ℕ
round_up w top = (top + (bytes_of w - 1)) / bytes_of w * bytes_of w

-- "and give that address; the exact end (count unsigned, words × 4) must not pass the memory's length, else stop 34": n bytes of
-- m
unfoldable pub reserved : Width → ℕ → ℕ → ℕ → Worked
reserved w m top n = if_lt m (round_up w top + n) (Err 34) (valued (round_up w top) (round_up w top + n))

-- an operator's answer, the auto top staying
unfoldable pub answered : ℕ → Answer → Worked
answered top (Ok v) = valued v top
answered top (Err e) = Err (stop_of (Err e))

-- a word read, the auto top staying
unfoldable pub fetched : ℕ → Option ℕ → Worked
fetched top (Some v) = valued v top
fetched top None = Err 32

-- the byte at an address
unfoldable pub byte_of : List ℕ → ℕ → ℕ → Worked
byte_of m top a = if_true (byte_good (length m) a) (valued (get_or m a 0) top) (Err 32)

-- a word; a word or a stop
abbrev pub gives : (ℕ → ℕ → ℕ → ℕ) → Width → List ℕ → ℕ → ℕ → ℕ → Worked
gives f w m top x y = valued (f (bits_of w) x y) top

abbrev pub answers : (ℕ → ℕ → ℕ → Answer) → Width → List ℕ → ℕ → ℕ → ℕ → Worked
answers f w m top x y = answered top (f (bits_of w) x y)

-- ---- what it meets

pub data Meeting : Type 0 where
  -- a word or a byte of memory is touched at an address
  word_at : ℕ → Meeting
  byte_at : ℕ → Meeting
  -- `div` or `mod` of two words
  divides : ℕ → ℕ → Meeting
  leaves_over : ℕ → Meeting
  -- a shift or rotate by a count
  shifts_by : ℕ → Meeting
  -- auto memory up to an end, stack words up to an end
  reserves_to : ℕ → Meeting
  stacks_to : ℕ → Meeting

abbrev pub meets_nothing : Width → ℕ → ℕ → ℕ → List Meeting
meets_nothing w top x y = []

abbrev pub meets_count : Width → ℕ → ℕ → ℕ → List Meeting
meets_count w top x y = shifts_by y ∷ []

-- ---- the table

-- an operator by its number: the result of words x and y (y where it takes two) with a memory and an auto top; what it meets
pub record Operator : Type 0 where
  pub number : ℕ
  pub result : Width → List ℕ → ℕ → ℕ → ℕ → Worked
  pub meets : Width → ℕ → ℕ → ℕ → List Meeting

abbrev pub operator : ℕ → (Width → List ℕ → ℕ → ℕ → ℕ → Worked) → (Width → ℕ → ℕ → ℕ → List Meeting) → Operator
operator number result meets = record { number = number; result = result; meets = meets }

-- in the word list's order
unfoldable pub operators : List Operator
operators =
    operator op.add (gives add_of) meets_nothing ∷
    operator op.and (gives and_of) meets_nothing ∷
    operator op.asr (answers asr_of) meets_count ∷
    operator op.auto_bytes (λ w m top x y. reserved w (length m) top x) (λ w top x y. reserves_to (round_up w top + x) ∷ []) ∷
    operator op.auto_words (λ w m top x y. reserved w (length m) top (bytes_of w * x)) (λ w top x y. reserves_to (round_up w top + bytes_of w * x) ∷ []) ∷
    operator op.bsr (answers bsr_of) meets_count ∷
    operator op.div (answers div_of) (λ w top x y. divides x y ∷ []) ∷
    operator op.get_byte (λ w m top x y. byte_of m top (byte_address w x y)) (λ w top x y. byte_at (byte_address w x y) ∷ []) ∷
    operator op.get_word (λ w m top x y. fetched top (fetch_of w m (word_address w x y))) (λ w top x y. word_at (word_address w x y) ∷ []) ∷
    operator op.modulo (answers mod_of) (λ w top x y. leaves_over y ∷ []) ∷
    operator op.mul (gives mul_of) meets_nothing ∷
    operator op.not (gives (λ b x y. not_of b x)) meets_nothing ∷
    operator op.or (gives or_of) meets_nothing ∷
    operator op.rol (answers rol_of) meets_count ∷
    operator op.ror (answers ror_of) meets_count ∷
    operator op.shl (answers shl_of) meets_count ∷
    operator op.shr (answers shr_of) meets_count ∷
    operator op.sub (gives sub_of) meets_nothing ∷
    operator op.xor (gives xor_of) meets_nothing ∷
    []

-- no operator: a row whose expression has such a number is 35 before this (`expression_listed`); it gives 0 and meets nothing
abbrev pub no_operator : Operator
no_operator = operator no_expression (gives (λ b x y. 0)) meets_nothing

-- the line with a number
unfoldable pub line_in : ℕ → List Operator → Operator
line_in e [] = no_operator
line_in e (o ∷ os) = if_eq e o.number o (line_in e os)

unfoldable pub operator_of : ℕ → Operator
operator_of e = line_in e operators

-- operator e of x, and of y where it takes two
unfoldable pub applied : Width → List ℕ → ℕ → ℕ → ℕ → ℕ → Worked
applied w m top e x y = (operator_of e).result w m top x y

-- what operator e meets with words x and y
unfoldable pub operator_meets : Width → ℕ → ℕ → ℕ → ℕ → List Meeting
operator_meets w top e x y = (operator_of e).meets w top x y
