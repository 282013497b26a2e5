-- Refusal 35 for rows: "35 is given exactly for: a kind not listed in docs/TABLES.md; a target that is no statement of the same function; a
-- callee that is no function or has another parameter count; a function's frame size below 3 + parameters; a parameter, local or block word at
-- or past its function's frame size; a data address above the data's length; a label row or count past its table". What the list
-- says of a step's record and frames belongs to the machine.
-- Assumes nothing.
use Rattle.std.specs.Prelude.{ℕ, ◌+◌, Bool, true, false, not, [], ◌∷◌, ltb, leb, eqb}
use Rattle.base_prelude.specs.Choice.{if_lt, if_eq, if_true}
use Rattle.base_limits.specs.Limits.{name_bytes}
use Rattle.lang_kinds.specs.Kinds as kind
use Rattle.prog_tables.specs.Layout.{operand_slots, frame_head, no_expression, plain, place_label, import_label}
use Rattle.prog_tables.specs.Tests.{both, one_of, some, some_of, some_below}
use Rattle.prog_tables.specs.Statement.{Row, has_expression, is_operator, is_call_row, is_call, is_import, is_call_expression}
use Rattle.prog_tables.specs.Label.{Label, is_data, is_function_label}
use Rattle.prog_tables.specs.Program.{Program}
use Rattle.prog_tables.specs.Nesting.{is_listed, has_target}
use Rattle.prog_tables.specs.declared.Operand.{Operand}
use Rattle.prog_tables.specs.declared.Operand.TheVariants.{Constant, Local, Address, AtConstant, AtLocal, AtAddress, Unlisted}

-- the expression kinds that a row of kind k with an expression may have: a bare `return` alone has none
unfoldable pub expression_listed : ℕ → ℕ → Bool
expression_listed k e = if_eq e no_expression (eqb k kind.return) (if_eq e plain true (if_true (is_call_expression e) true (is_operator e)))

-- an unlisted expression kind e of a row of kind k: `call` and `tail-call` have that of a call
abbrev pub expression_fault : ℕ → ℕ → Bool
expression_fault k e = one_of (both (is_call_row k) (not (is_call_expression e))) (both (has_expression k) (not (expression_listed k e)))

-- row n is in a function: its function field names a `function` row
unfoldable pub in_function : (ℕ → Row) → ℕ → ℕ → Bool
in_function f c n = both (ltb (f n).func c) (eqb (f (f n).func).kind kind.function)

-- the frame size of the function of row n; 0 in none
unfoldable pub size_at : (ℕ → Row) → ℕ → ℕ → ℕ
size_at f c n = if_true (in_function f c n) (f (f n).func).a 0

-- an operand of an unlisted kind, a word at or past the frame size, an address above the data's length
unfoldable pub operand_fault : ℕ → ℕ → Operand → Bool
operand_fault size d (Constant v) = false
operand_fault size d (Local w) = leb size w
operand_fault size d (Address v) = ltb d v
operand_fault size d (AtConstant v) = false
operand_fault size d (AtLocal w) = leb size w
operand_fault size d (AtAddress v) = ltb d v
operand_fault size d Unlisted = true

-- the operand behind the `@` of `set @` is no `@` operand itself
unfoldable pub address_listed : Operand → Bool
address_listed (Constant v) = true
address_listed (Local w) = true
address_listed (Address v) = true
address_listed (AtConstant v) = false
address_listed (AtLocal w) = false
address_listed (AtAddress v) = false
address_listed Unlisted = false

-- ---- causes, each a test of statement n

-- "a kind not listed"; those of operands are in `operands_fault`
unfoldable pub kind_fault : Program → ℕ → Bool
kind_fault p n = if_true (is_listed (p.rows n).kind) (expression_fault (p.rows n).kind (p.rows n).expr) true

-- "a target that is no statement of the same function"
unfoldable pub target_fault : Program → ℕ → Bool
target_fault p n =
    both (one_of (has_target (p.rows n).kind) (eqb (p.rows n).kind kind.goto))
    (not
    (both (in_function p.rows p.count n)
    (both (ltb (p.rows n).a p.count) (eqb (p.rows (p.rows n).a).func (p.rows n).func))))

-- "a callee that is no function or has another parameter count"; a count of arguments past the row's slots
unfoldable pub function_fault : Program → ℕ → Bool
function_fault p n =
    both (is_call (p.rows n).kind (p.rows n).expr)
    (not
    (both (ltb (p.rows n).callee p.count)
    (both (eqb (p.rows (p.rows n).callee).kind kind.function)
    (both (eqb (p.rows (p.rows n).callee).b (p.rows n).count) (leb (p.rows n).count operand_slots)))))

-- "35 takes an imported name as a function with its argument count" (02, 3): a callee that is no label row of an imported function
unfoldable pub import_fault : Program → ℕ → Bool
import_fault p n =
    both (is_import (p.rows n).kind (p.rows n).expr)
    (not
    (both (ltb (p.rows n).callee p.label_count)
    (both (eqb (p.labels (p.rows n).callee).kind import_label)
    (both (eqb (p.labels (p.rows n).callee).arguments (p.rows n).count) (leb (p.rows n).count operand_slots)))))

-- of a call in any form
unfoldable pub callee_fault : Program → ℕ → Bool
callee_fault p n = one_of (function_fault p n) (import_fault p n)

-- "a function's frame size below 3 + parameters"
unfoldable pub size_fault : Program → ℕ → Bool
size_fault p n = both (eqb (p.rows n).kind kind.function) (ltb (p.rows n).a (frame_head + (p.rows n).b))

-- the last word that a row itself names: destination of `let` and `set`, a block's saved auto top, the last let of a `block` row
unfoldable pub own_word : Row → ℕ
own_word r = if_eq r.kind kind.block (r.a + r.b) r.a

unfoldable pub has_word : ℕ → Bool
has_word k = if_lt k kind.block false (ltb k kind.set_at)

-- "a parameter, local or block word at or past its function's frame size"; those of operands are in `operands_fault`
unfoldable pub word_fault : Program → ℕ → Bool
word_fault p n = both (has_word (p.rows n).kind) (leb (size_at p.rows p.count n) (own_word (p.rows n)))

-- operands: their kinds, words and data addresses
unfoldable pub operands_fault : Program → ℕ → Bool
operands_fault p n = some_of (operand_fault (size_at p.rows p.count n) p.data_length) (p.rows n).operands

unfoldable pub address_fault : Program → ℕ → Bool
address_fault p n =
    both (eqb (p.rows n).kind kind.set_at)
    (one_of (not (address_listed (p.rows n).address)) (operand_fault (size_at p.rows p.count n) p.data_length (p.rows n).address))

-- statement n is broken
unfoldable pub row_fault : Program → ℕ → Bool
row_fault p n =
    some
    (kind_fault p n
    ∷ target_fault p n
    ∷ callee_fault p n
    ∷ size_fault p n
    ∷ word_fault p n
    ∷ operands_fault p n
    ∷ address_fault p n
    ∷ [])

-- a label row is broken, but for that of an imported function: an unlisted kind, an address above the data's length, a function label on no `function` row, a place past
-- the statements, a name longer than its bytes
unfoldable pub label_fault : Program → Label → Bool
label_fault p l =
    one_of (ltb name_bytes l.size)
    (if_true (is_data l.kind) (ltb p.data_length l.number)
    (if_true (is_function_label l.kind) (not (both (ltb l.number p.count) (eqb (p.rows l.number).kind kind.function)))
    (if_eq l.kind place_label (leb p.count l.number) (not (eqb l.kind import_label)))))

-- a count past its table
unfoldable pub count_fault : Program → Bool
count_fault p = one_of p.statements_past p.labels_past

-- some row or count is broken
unfoldable pub tables_fault : Program → Bool
tables_fault p =
    some
    (count_fault p
    ∷ some_below (row_fault p) p.count
    ∷ some_below (λ n. label_fault p (p.labels n)) p.label_count
    ∷ [])
