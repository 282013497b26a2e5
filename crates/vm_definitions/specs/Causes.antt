-- The five causes of a stop, on their own: what a statement meets, in reading order, and which of it is a cause. Nothing here
-- evaluates a statement.
-- Assumes nothing.
use Rattle.std.specs.Prelude.{ℕ, ◌+◌, ◌-◌, ◌%◌, ◌^◌, Bool, List, [], ◌∷◌, ◌++◌, ltb, leb, eqb, length}
use Rattle.base_prelude.specs.Choice.{if_lt, if_eq, if_true}
use Rattle.base_limits.specs.Width.{bits_of, bytes_of}
use Rattle.base_limits.specs.declared.Width.{Width}
use Rattle.lang_kinds.specs.Kinds as kind
use Rattle.prog_tables.specs.Tests.{both, one_of}
use Rattle.prog_tables.specs.Statement.{Row, has_expression, is_call, is_import}
use Rattle.prog_tables.specs.Program.{Program}
use Rattle.prog_tables.specs.declared.Operand.{Operand}
use Rattle.vm_definitions.specs.Access.{byte_address, word_address, load_of}
use Rattle.vm_definitions.specs.Operands.{is_at, number_in}
use Rattle.vm_definitions.specs.Operators.{Meeting, word_at, byte_at, divides, leaves_over, shifts_by, reserves_to, stacks_to, operator_meets}
use Rattle.vm_definitions.specs.Expressions.{operand_no}
use Rattle.vm_definitions.specs.Step.{World}

-- the number of a cause, 0 where it is none: m bytes of memory, s words of stack
unfoldable pub cause_of : Width → ℕ → ℕ → Meeting → ℕ
-- "A word access, `@` included, needs a multiple of 4; every byte touched must be in memory, else stop 32"
cause_of w m s (word_at a) = if_true (both (eqb (a % bytes_of w) 0) (leb (a + bytes_of w) m)) 0 32
cause_of w m s (byte_at a) = if_true (ltb a m) 0 32
-- "zero divisor, or `div` of -2147483648 by -1: stop 30"
cause_of w m s (divides x y) = if_true (one_of (eqb y 0) (both (eqb x (2 ^ (bits_of w - 1))) (eqb y (2 ^ bits_of w - 1)))) 30 0
cause_of w m s (leaves_over y) = if_eq y 0 30 0
-- "a negative count is stop 31"
cause_of w m s (shifts_by n) = if_true (leb (2 ^ (bits_of w - 1)) n) 31 0
-- "the exact end [..] must not pass the memory's length, else stop 34"
cause_of w m s (reserves_to e) = if_lt m e 34 0
-- "a new frame past the lent stack is stop 33"
cause_of w m s (stacks_to e) = if_lt s e 33 0

-- the number of the first cause, 0 without any
unfoldable pub first_of : Width → ℕ → ℕ → List Meeting → ℕ
first_of w m s [] = 0
first_of w m s (e ∷ es) = if_eq (cause_of w m s e) 0 (first_of w m s es) (cause_of w m s e)

-- ---- what a statement meets

-- the words that `@` operands touch, left to right
unfoldable pub touched : Width → List ℕ → ℕ → List Operand → List Meeting
touched w st s [] = []
touched w st s (o ∷ os) = if_true (is_at o) (word_at (number_in w st s o) ∷ touched w st s os) (touched w st s os)

-- an operand's word, where it can be read
unfoldable pub word_of : Width → List ℕ → ℕ → List ℕ → Operand → ℕ
word_of w st s m o = if_true (is_at o) (load_of w m (number_in w st s o)) (number_in w st s o)

-- the stack words with the new frame of row r, which calls: "that sum with the new frame, for a tail call less the old one"; `sum`
-- the words of all open functions, `last` those of the last, g the frame size of the function called
unfoldable pub with_frame : ℕ → ℕ → ℕ → Row → ℕ
with_frame sum last g r = if_eq r.kind kind.tail_call (sum - last + g) (sum + g)

-- behind its operands; a call to an imported function has no frame and meets nothing there
unfoldable pub behind_operands : Width → ℕ → ℕ → ℕ → ℕ → Row → ℕ → ℕ → List Meeting
behind_operands w top sum last g r x y =
    if_true (is_call r.kind r.expr) (stacks_to (with_frame sum last g r) ∷ [])
    (if_true (has_expression r.kind) (operator_meets w top r.expr x y)
    (if_eq r.kind kind.set_byte (byte_at (byte_address w x y) ∷ [])
    (if_eq r.kind kind.set_word (word_at (word_address w x y) ∷ []) [])))

-- the words it touches while it reads: the address of `set @`, then the operands
unfoldable pub reads_of : Width → Row → World → List Meeting
reads_of w r x =
    if_eq r.kind kind.set_at (word_at (number_in w x.stack x.machine.frame r.address) ∷ []) []
    ++ touched w x.stack x.machine.frame r.operands

-- all, in reading order
unfoldable pub meetings_of : Program → ℕ → ℕ → World → List Meeting
meetings_of p sum last x =
    reads_of p.width (p.rows x.machine.next) x
    ++ behind_operands p.width x.machine.top sum last (p.rows (p.rows x.machine.next).callee).a (p.rows x.machine.next)
    (word_of p.width x.stack x.machine.frame x.memory (operand_no (p.rows x.machine.next).operands 0))
    (word_of p.width x.stack x.machine.frame x.memory (operand_no (p.rows x.machine.next).operands 1))

-- the number of the first cause that the next statement meets
unfoldable pub first_cause : Program → ℕ → ℕ → World → ℕ
first_cause p sum last x = first_of p.width (length x.memory) (length x.stack) (meetings_of p sum last x)

-- the next statement calls or tail-calls, a function or an imported one
abbrev pub calls_at_all : Row → Bool
calls_at_all r = one_of (is_call r.kind r.expr) (is_import r.kind r.expr)

-- "a call's or tail call's arguments are read": the next statement calls, and nothing it reads is a cause
unfoldable pub arguments_read : Program → World → Bool
arguments_read p x =
    both (calls_at_all (p.rows x.machine.next))
    (eqb (first_of p.width (length x.memory) (length x.stack) (reads_of p.width (p.rows x.machine.next) x)) 0)

-- "and that sum with the new frame, for a tail call less the old one, passes the words lent"
unfoldable pub passes_stack : Program → ℕ → ℕ → World → Bool
passes_stack p sum last x =
    ltb (length x.stack) (with_frame sum last (p.rows (p.rows x.machine.next).callee).a (p.rows x.machine.next))
