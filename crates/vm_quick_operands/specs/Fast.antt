-- Operands, expressions and functions of rows, tested for 35 and read at once: where one is good it gives what the definitions of the
-- machine give (proofs/Good.antt), else nothing is said of it here.
-- Assumes nothing.
use Rattle.std.specs.Prelude.{Err, None, Option}
use Rattle.vm_definitions.specs.Operands.{Worked, valued}
use Rattle.std.specs.Prelude.{ℕ, ◌+◌, List, [], ◌∷◌}
use Rattle.base_prelude.specs.Choice.{if_lt, if_eq, if_true}
use Rattle.base_limits.specs.declared.Width.TheVariants.{Bits32}
use Rattle.lang_kinds.specs.Kinds as kind
use Rattle.prog_tables.specs.Layout.{plain, frame_head}
use Rattle.prog_tables.specs.Places.{expr_from, first_place, second_place}
use Rattle.prog_tables.specs.Statement.{Row, expression_uses, operand_at}
use Rattle.prog_tables.specs.Faults.{operand_fault}
use Rattle.prog_tables.specs.declared.Operand.{Operand}
use Rattle.vm_definitions.specs.Operands.{Words, words, bad, with_word, read_of, on_read}
use Rattle.vm_definitions.specs.Operators.{applied}

-- an operand's word in the frame at s, where the operand is good: the frame has this size, the data d bytes
unfoldable pub good_read : ℕ → ℕ → List ℕ → ℕ → List ℕ → Operand → Option ℕ
good_read size d st s m o = if_true (operand_fault size d o) None (read_of Bits32 st s m o)

-- all of some operands, left to right, by what reads one
unfoldable pub read_each : (Operand → Option ℕ) → List Operand → Words
read_each rd [] = words []
read_each rd (o ∷ os) = on_read (rd o) bad (λ v. with_word v (read_each rd os))

-- the expression of the row whose first word is at a place
module _ (t : List ℕ) (at size d : ℕ) (st : List ℕ) (s : ℕ) (m : List ℕ) (top : ℕ) where
  unfoldable pub one_read : ℕ → Worked
  one_read e =
      on_read (good_read size d st s m (operand_at t (first_place at))) (Err 32)
      (λ x. if_eq e plain (valued x top) (applied Bits32 m top e x 0))

  unfoldable pub two_read : ℕ → Worked
  two_read e =
      on_read (good_read size d st s m (operand_at t (first_place at))) (Err 32)
      (λ x. on_read (good_read size d st s m (operand_at t (second_place at))) (Err 32) (applied Bits32 m top e x))

  -- by the number of its operands; a call has none here
  unfoldable pub good_work : Worked
  good_work =
      if_eq (expression_uses (expr_from t at) 0) 1 (one_read (expr_from t at))
      (if_eq (expression_uses (expr_from t at) 0) 2 (two_read (expr_from t at)) (Err 0))

-- the frame size of the good `function` row g of c rows; 0 where it is none
unfoldable pub size_of : (ℕ → Row) → ℕ → ℕ → ℕ
size_of f c g = if_lt g c (if_eq (f g).kind kind.function (if_lt (f g).a (frame_head + (f g).b) 0 (f g).a) 0) 0
