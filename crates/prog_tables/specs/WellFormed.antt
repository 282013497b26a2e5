-- Well-formed tables: "the rules of 01 on nesting (each function, `if` and block closed by its own `end`, no `let` in an `if` of its frame, each
-- test's and `else`'s target the one 01 gives), names (none empty or reserved, a local's word or a data address that of one in scope there), exports,
-- frames, `goto` and calls (to labels), counts and limits" (02, 7). Each rule is a test of one row in its tables.
-- Assumes nothing.
use Rattle.std.specs.Prelude.{◌≡◌, ℕ, Bool, true, false, not, List, [], ◌∷◌, ltb, leb, eqb}
use Rattle.base_prelude.specs.Choice.{if_eq, if_true}
use Rattle.base_prelude.specs.Lists.{same_list}
use Rattle.base_limits.specs.Limits as limits
use Rattle.base_limits.specs.Limits.{name_bytes, data_bytes, parameters, locals, block_depth}
use Rattle.lang_kinds.specs.Kinds as kind
use Rattle.lang_words.specs.Words.{number_of}
use Rattle.prog_tables.specs.Layout.{function_label, place_label, import_label}
use Rattle.prog_tables.specs.Tests.{both, one_of, given, all, all_of, all_below, some_below}
use Rattle.prog_tables.specs.Statement.{Row, has_expression, is_test, is_call, is_import, used_by}
use Rattle.prog_tables.specs.Label.{Label, is_data, is_function_label}
use Rattle.prog_tables.specs.Program.{Program}
use Rattle.prog_tables.specs.Nesting.{stands, all_closed, has_target, target_of, depth_of, follows_jump}
use Rattle.prog_tables.specs.Frames.{frame_depth, frame_size, block_word, let_word, lets_before, in_scope, locals_at}
use Rattle.prog_tables.specs.Faults.{expression_fault, address_listed}
use Rattle.prog_tables.specs.declared.Operand.{Operand}
use Rattle.prog_tables.specs.declared.Operand.TheVariants.{Constant, Local, Address, AtConstant, AtLocal, AtAddress, Unlisted}

-- ---- statements: f the view of c rows, g that of l labels

-- "blocks nested 16 deep"
unfoldable pub shallow : (ℕ → Row) → ℕ → Bool
shallow f n = given (eqb (f n).kind kind.block) (leb (depth_of f frame_depth n) block_depth)

-- "each test's and `else`'s target the one 01 gives"
unfoldable pub aimed : (ℕ → Row) → ℕ → ℕ → Bool
aimed f c n = given (has_target (f n).kind) (eqb (f n).a (target_of f c n))

-- a label whose kind passes p names number v
unfoldable pub labelled : (ℕ → Label) → ℕ → (ℕ → Bool) → ℕ → Bool
labelled g l p v = some_below (λ i. both (p (g i).kind) (eqb (g i).number v)) l

-- "`goto` takes a statement's label in the same function and innermost block."
unfoldable pub jumps : Program → ℕ → Bool
jumps p n =
    given (eqb (p.rows n).kind kind.goto)
    (all
    (ltb (p.rows n).a p.count
    ∷ eqb (p.rows (p.rows n).a).func (p.rows n).func
    ∷ eqb (p.rows (p.rows n).a).scope (p.rows n).scope
    ∷ labelled p.labels p.label_count (λ k. eqb k place_label) (p.rows n).a
    ∷ []))

-- "`call` and `tail-call` take a function label with its parameter count."
unfoldable pub function_calls : Program → ℕ → Bool
function_calls p n =
    given (is_call (p.rows n).kind (p.rows n).expr)
    (all
    (ltb (p.rows n).callee p.count
    ∷ eqb (p.rows (p.rows n).callee).kind kind.function
    ∷ eqb (p.rows (p.rows n).callee).b (p.rows n).count
    ∷ leb (p.rows n).count parameters
    ∷ labelled p.labels p.label_count is_function_label (p.rows n).callee
    ∷ []))

-- the same of an imported function, "with its argument count" (02, 3)
unfoldable pub import_calls : Program → ℕ → Bool
import_calls p n =
    given (is_import (p.rows n).kind (p.rows n).expr)
    (all
    (ltb (p.rows n).callee p.label_count
    ∷ eqb (p.labels (p.rows n).callee).kind import_label
    ∷ eqb (p.labels (p.rows n).callee).arguments (p.rows n).count
    ∷ leb (p.rows n).count parameters
    ∷ []))

unfoldable pub calls : Program → ℕ → Bool
calls p n = both (function_calls p n) (import_calls p n)

-- exports: "An export stands before the first operand or target that means its label", its definition is the first behind it, and no
-- function holds one; so a forward call, to a function that stands behind it, is by a label that is not exported
unfoldable pub forward_calls : Program → ℕ → Bool
forward_calls p n =
    given (both (is_call (p.rows n).kind (p.rows n).expr) (ltb n (p.rows n).callee))
    (labelled p.labels p.label_count (λ k. eqb k function_label) (p.rows n).callee)

-- `set-byte`, `set-word`, calls, tests, and what has an expression
unfoldable pub has_operands : ℕ → Bool
has_operands k = one_of (has_expression k) (one_of (is_test k) (both (leb kind.set_byte k) (both (leb k kind.tail_call) (not (eqb k kind.goto)))))

-- a listed expression kind; as many operands as its operator, call or statement takes
unfoldable pub shaped : (ℕ → Row) → ℕ → Bool
shaped f n =
    both (not (expression_fault (f n).kind (f n).expr))
    (given (has_operands (f n).kind) (eqb (f n).count (used_by (f n).kind (f n).expr (f n).count)))

-- "A value is a local or a data label (its address)": at row n, of a listed kind, "a local's word or a data address that of one in
-- scope there"
unfoldable pub operand_good : Program → ℕ → Operand → Bool
operand_good p n (Constant v) = true
operand_good p n (Local w) = in_scope p.rows n w
operand_good p n (Address v) = labelled p.labels p.label_count is_data v
operand_good p n (AtConstant v) = true
operand_good p n (AtLocal w) = in_scope p.rows n w
operand_good p n (AtAddress v) = labelled p.labels p.label_count is_data v
operand_good p n Unlisted = false

unfoldable pub operands_good : Program → ℕ → Bool
operands_good p n = all_of (operand_good p n) (p.rows n).operands

-- the operand behind the `@` of `set @`
unfoldable pub address_good : Program → ℕ → Bool
address_good p n =
    given (eqb (p.rows n).kind kind.set_at) (both (address_listed (p.rows n).address) (operand_good p n (p.rows n).address))

-- "`set` takes a local."
unfoldable pub sets_local : (ℕ → Row) → ℕ → Bool
sets_local f n = given (eqb (f n).kind kind.set) (in_scope f n (f n).a)

-- a let's word, a block's word with its lets and the locals before it, the same word at its `end block`, a function's frame size
unfoldable pub framed : (ℕ → Row) → ℕ → ℕ → Bool
framed f c n =
    all
    (given (eqb (f n).kind kind.let_local) (eqb (f n).a (let_word f c n))
    ∷ given (eqb (f n).kind kind.block)
    (both (eqb (f n).a (block_word f c n)) (both (eqb (f n).b (lets_before f n c)) (eqb (f n).callee (locals_at f n))))
    ∷ given (eqb (f n).kind kind.end_block) (eqb (f n).a (block_word f c (f n).scope))
    ∷ given (eqb (f n).kind kind.function) (eqb (f n).a (frame_size f c n))
    ∷ [])

-- "parameters and arguments 8; locals in scope 64, parameters and shadowed ones included": at each `let` one may come to those in scope
unfoldable pub few_locals : (ℕ → Row) → ℕ → Bool
few_locals f n = both (given (eqb (f n).kind kind.function) (leb (f n).b parameters)) (given (eqb (f n).kind kind.let_local) (ltb (locals_at f n) locals))

-- the tests of statement n, in the order of proofs/Each
unfoldable pub row_tests : Program → ℕ → List Bool
row_tests p n =
    stands p.rows n
    ∷ shallow p.rows n
    ∷ aimed p.rows p.count n
    ∷ jumps p n
    ∷ calls p n
    ∷ shaped p.rows n
    ∷ operands_good p n
    ∷ address_good p n
    ∷ sets_local p.rows n
    ∷ framed p.rows p.count n
    ∷ few_locals p.rows n
    ∷ forward_calls p n
    ∷ []

-- ---- labels

-- "A label names a data definition [..] in data, a function in functions, or a statement inside a function"; that of an `else
-- if..` line "names the jump", not the test behind it; an imported name has "an argument count of 0 to 8" (02, 3)
unfoldable pub names : Program → Label → Bool
names p l =
    if_true (is_data l.kind) (leb l.number p.data_length)
    (if_eq l.kind import_label (leb l.arguments parameters)
    (both (ltb l.number p.count)
    (if_true (is_function_label l.kind) (eqb (p.rows l.number).kind kind.function)
    (all (eqb l.kind place_label ∷ not (eqb (p.rows l.number).kind kind.function) ∷ not (follows_jump p.rows l.number) ∷ [])))))

-- "a name 64 decoded bytes", "none empty or reserved"
unfoldable pub name_good : Label → Bool
name_good l = all (leb 1 l.size ∷ leb l.size name_bytes ∷ eqb (number_of l.name) 0 ∷ [])

-- "Two locals of one frame [..] may not share a name, nor may two labels": no label before n has its name
unfoldable pub name_new : (ℕ → Label) → ℕ → Bool
name_new g n = not (some_below (λ i. same_list (g i).name (g n).name) n)

unfoldable pub label_tests : Program → ℕ → List Bool
label_tests p n = names p (p.labels n) ∷ name_good (p.labels n) ∷ name_new p.labels n ∷ []

-- ---- programs

-- "statements 1,024; labels 256; [..] data 32,768 bytes"; and the rows are in their tables
unfoldable pub counts_good : Program → Bool
counts_good p =
    all
    (leb p.count limits.statements
    ∷ leb p.label_count limits.labels
    ∷ leb p.data_length data_bytes
    ∷ not p.statements_past
    ∷ not p.labels_past
    ∷ [])

abbrev pub row_good : Program → ℕ → Bool
row_good p n = all (row_tests p n)

abbrev pub label_good : Program → ℕ → Bool
label_good p n = all (label_tests p n)

unfoldable pub well_formed : Program → Bool
well_formed p =
    all
    (counts_good p
    ∷ all_closed p.rows p.count
    ∷ all_below (row_good p) p.count
    ∷ all_below (label_good p) p.label_count
    ∷ [])

abbrev pub WellFormed : Program → Type 0
WellFormed p = well_formed p ≡ true
