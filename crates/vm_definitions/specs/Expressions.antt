-- Expressions: an operand, or an operator with operands.
-- Assumes nothing.
use Rattle.std.specs.Prelude.{Err}
use Rattle.vm_definitions.specs.Operands.{Worked}
use Rattle.std.specs.Prelude.{ℕ, Bool, List, get_or}
use Rattle.base_prelude.specs.Choice.{if_eq}
use Rattle.base_limits.specs.Width.{bits_of}
use Rattle.base_limits.specs.declared.Width.{Width}
use Rattle.lang_words.specs.Words.{least_operands}
use Rattle.base_word.specs.Word.{eq_of, ge_of, gt_of, le_of, lt_of, ne_of}
use Rattle.lang_kinds.specs.Kinds as kind
use Rattle.prog_tables.specs.Layout.{plain}
use Rattle.prog_tables.specs.declared.Operand.{Operand}
use Rattle.prog_tables.specs.declared.Operand.TheVariants.{Unlisted}
use Rattle.vm_definitions.specs.Operands.{read_of, on_read}
use Rattle.vm_definitions.specs.Operators.{fetched, applied}

-- operand i of a row
abbrev pub operand_no : List Operand → ℕ → Operand
operand_no os i = get_or os i Unlisted

-- the value of an expression of kind e in the frame at s
unfoldable pub eval_of : Width → List ℕ → ℕ → List ℕ → ℕ → ℕ → List Operand → Worked
eval_of w st s m top e os =
    if_eq e plain (fetched top (read_of w st s m (operand_no os 0)))
    (on_read (read_of w st s m (operand_no os 0)) (Err 32)
    (λ x. if_eq (least_operands e) 1 (applied w m top e x 0)
    (on_read (read_of w st s m (operand_no os 1)) (Err 32) (applied w m top e x))))

-- ---- tests

-- "Tests are signed"; the last is `ifne`
unfoldable pub test_holds : Width → ℕ → ℕ → ℕ → Bool
test_holds w k x y =
    if_eq k kind.ifeq (eq_of (bits_of w) x y)
    (if_eq k kind.ifge (ge_of (bits_of w) x y)
    (if_eq k kind.ifgt (gt_of (bits_of w) x y)
    (if_eq k kind.ifle (le_of (bits_of w) x y)
    (if_eq k kind.iflt (lt_of (bits_of w) x y)
    (ne_of (bits_of w) x y)))))
