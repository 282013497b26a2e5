-- A statement row of 27 words, decoded: what stands in which word, and which operands a row has.
-- Assumes nothing.
use Rattle.std.specs.Prelude.{ℕ, zero, suc, ◌+◌, ◌*◌, Bool, true, false, List, [], ◌∷◌, ltb, eqb, get_or, take}
use Rattle.base_prelude.specs.Choice.{if_lt, if_eq, if_true}
use Rattle.lang_kinds.specs.Kinds as kind
use Rattle.lang_words.specs.Words.{least_operands}
use Rattle.prog_tables.specs.StatementRow as row
use Rattle.prog_tables.specs.Tests.{one_of}
use Rattle.prog_tables.specs.Layout.{statement_row, plain, call_expression, import_expression, first_operator, last_operator, operand_slots, no_operand, constant_operand, local_operand, address_operand, at_constant, at_local, at_address}
use Rattle.prog_tables.specs.declared.Operand.{Operand}
use Rattle.prog_tables.specs.declared.Operand.TheVariants.{Constant, Local, Address, AtConstant, AtLocal, AtAddress, Unlisted}

-- ---- operands

-- "An operand is an integer, a name, or `@` and one of these": a kind and a number
unfoldable pub operand_of : ℕ → ℕ → Operand
operand_of k v =
    if_eq k constant_operand (Constant v)
    (if_eq k local_operand (Local v)
    (if_eq k address_operand (Address v)
    (if_eq k at_constant (AtConstant v)
    (if_eq k at_local (AtLocal v)
    (if_eq k at_address (AtAddress v) Unlisted)))))

unfoldable pub operand_kind : Operand → ℕ
operand_kind (Constant v) = constant_operand
operand_kind (Local v) = local_operand
operand_kind (Address v) = address_operand
operand_kind (AtConstant v) = at_constant
operand_kind (AtLocal v) = at_local
operand_kind (AtAddress v) = at_address
operand_kind Unlisted = no_operand

unfoldable pub operand_number : Operand → ℕ
operand_number (Constant v) = v
operand_number (Local v) = v
operand_number (Address v) = v
operand_number (AtConstant v) = v
operand_number (AtLocal v) = v
operand_number (AtAddress v) = v
operand_number Unlisted = 0

-- ---- which operands a row has

-- `let`, `set`, `set @` and `return` have an expression
unfoldable pub has_expression : ℕ → Bool
has_expression k = if_lt k kind.let_local false (if_lt k kind.set_byte true (eqb k kind.return))

-- ifeq, ifge, ifgt, ifle, iflt, ifne
unfoldable pub is_test : ℕ → Bool
is_test k = if_lt k kind.ifeq false (ltb k kind.else)

unfoldable pub is_operator : ℕ → Bool
is_operator e = if_lt e first_operator false (ltb e (suc last_operator))

-- `call` and `tail-call`
abbrev pub is_call_row : ℕ → Bool
is_call_row k = one_of (eqb k kind.call) (eqb k kind.tail_call)

-- the row of kind k with expression kind e calls a function of the source
unfoldable pub is_call : ℕ → ℕ → Bool
is_call k e =
    if_eq e import_expression false (if_eq k kind.call true (if_eq k kind.tail_call true (if_true (has_expression k) (eqb e call_expression) false)))

-- it calls an imported function
unfoldable pub is_import : ℕ → ℕ → Bool
is_import k e = if_eq e import_expression (if_true (is_call_row k) true (has_expression k)) false

-- an expression of kind e is a call
unfoldable pub is_call_expression : ℕ → Bool
is_call_expression e = if_eq e call_expression true (eqb e import_expression)

-- operands of an expression of kind e; n arguments where it is a call
unfoldable pub expression_uses : ℕ → ℕ → ℕ
expression_uses e n = if_eq e plain 1 (if_eq e call_expression n (if_eq e import_expression n (if_true (is_operator e) (least_operands e) 0)))

-- operands of a row of kind k with expression kind e; n arguments where it is a call
unfoldable pub used_by : ℕ → ℕ → ℕ → ℕ
used_by k e n =
    if_true (has_expression k) (expression_uses e n)
    (if_true (is_call_row k) n
    (if_true (is_test k) 2
    (if_eq k kind.set_byte 3
    (if_eq k kind.set_word 3 0))))

-- ---- rows

pub record Row : Type 0 where
  pub kind : ℕ
  -- the `function` row it stands in; of a function row its own number
  pub func : ℕ
  -- the frame it stands in: the innermost `block` row, else the `function` row
  pub scope : ℕ
  -- the number plus one of the innermost open function, block or if-arm; 0 for nothing
  pub up : ℕ
  -- target, destination word, word of the saved auto top, or frame size
  pub a : ℕ
  -- parameters of a function, own lets of a block
  pub b : ℕ
  pub expr : ℕ
  -- the `function` row a call goes to, of an imported function its label row; of a block the locals in scope before it
  pub callee : ℕ
  pub count : ℕ
  -- of `set @`
  pub address : Operand
  pub operands : List Operand

unfoldable pub operand_at : List ℕ → ℕ → Operand
operand_at t i = operand_of (get_or t i 0) (get_or t (i + 1) 0)

-- the eight operand slots, of two words each, of the row whose first word is at a place
unfoldable pub slots : List ℕ → ℕ → List Operand
slots t at =
    operand_at t (at + row.operands) ∷ operand_at t (at + row.second) ∷ operand_at t (at + row.third) ∷ operand_at t (at + row.fourth) ∷ operand_at t (at + row.fifth) ∷ operand_at t (at + row.sixth)
    ∷ operand_at t (at + row.seventh) ∷ operand_at t (at + row.eighth) ∷ []

-- the row whose first word is at a place; words past the end are 0
unfoldable pub row_from : List ℕ → ℕ → Row
row_from t at =
    record {
      kind = get_or t at 0;
      func = get_or t (at + row.func) 0;
      scope = get_or t (at + row.scope) 0;
      up = get_or t (at + row.up) 0;
      a = get_or t (at + row.a) 0;
      b = get_or t (at + row.b) 0;
      expr = get_or t (at + row.expr) 0;
      callee = get_or t (at + row.callee) 0;
      count = get_or t (at + row.count) 0;
      address = operand_at t (at + row.address);
      operands = take (used_by (get_or t at 0) (get_or t (at + row.expr) 0) (get_or t (at + row.count) 0)) (slots t at);
    }

-- the row of 27 words
abbrev pub decode : List ℕ → Row
decode w = row_from w 0

-- row n of a table
unfoldable pub row_at : List ℕ → ℕ → Row
row_at t n = row_from t (n * statement_row)

-- the words of so many operand slots, 0 where there is no operand
unfoldable pub slot_words : ℕ → List Operand → List ℕ
slot_words zero os = []
slot_words (suc n) [] = 0 ∷ 0 ∷ slot_words n []
slot_words (suc n) (o ∷ os) = operand_kind o ∷ operand_number o ∷ slot_words n os

-- the 27 words of a row
unfoldable pub encode : Row → List ℕ
encode r =
    r.kind ∷ r.func ∷ r.scope ∷ r.up ∷ r.a ∷ r.b ∷ r.expr ∷ r.callee ∷ r.count ∷ operand_kind r.address ∷ operand_number r.address
    ∷ slot_words operand_slots r.operands
