-- The rows of the statement table: what each word of a statement holds, once its names are known to be good.
-- Assumes nothing.
use Rattle.std.specs.Prelude.{ℕ, zero, suc, ◌+◌, ◌-◌, ◌*◌, ◌%◌, min, Bool, false, List, [], ◌∷◌, ◌++◌, eqb, length, get_or, take, drop}
use Rattle.base_limits.specs.Limits.{word_values}
use Rattle.base_prelude.specs.Choice.{if_lt, if_eq, if_true}
use Rattle.lang_kinds.specs.Kinds as kind
use Rattle.lang_kinds.specs.Tokens as token
use Rattle.parse_lines.specs.Tokens.{kind_at, value_at}
use Rattle.prog_tables.specs.LabelRow as label
use Rattle.prog_tables.specs.Layout.{statement_row, operand_slots, label_row, frame_head, import_expression, import_label}
use Rattle.prog_tables.specs.Statement.{Row, operand_kind, operand_number, row_at, encode}
use Rattle.prog_tables.specs.Frames.{lets_before, locals_at}
use Rattle.prog_tables.specs.declared.Operand.{Operand}
use Rattle.prog_tables.specs.declared.Operand.TheVariants.{Constant, Local, Address, AtConstant, AtLocal, AtAddress, Unlisted}
use Rattle.res_scope.specs.Lines.{first_token, end_token, label_kind}
use Rattle.res_scope.specs.Names.{meaning_of}
use Rattle.res_scope.specs.Parts.{no_callee, parts_of}
use Rattle.res_scope.specs.declared.Meaning.{Meaning}
use Rattle.res_scope.specs.declared.Meaning.TheVariants.{Let, Parameter, Label, Unknown}
use Rattle.res_scope.specs.declared.Parts.{Parts}
use Rattle.res_rows.specs.declared.Head.{Head}

-- Everywhere: t the tokens, k the skeleton, y the outline's label rows, l of them, w the frame words, z the final label table; at row r.

-- ---- what a name stands for

-- label j in the final table: the address of data, else the statement
unfoldable pub label_number : List ℕ → ℕ → ℕ
label_number z j = get_or z (j * label_row + label.number) 0

-- the word of the let at row m
unfoldable pub word_of_let : List ℕ → ℕ → ℕ
word_of_let w m = get_or w m 0

-- "3 on the parameters": the word of parameter j; table words have 32 bits
unfoldable pub word_of_parameter : ℕ → ℕ
word_of_parameter j = (frame_head + j) % word_values

-- a local's word
unfoldable pub local_word : List ℕ → Meaning → ℕ
local_word w (Let m) = word_of_let w m
local_word w (Parameter j) = word_of_parameter j
local_word w (Label j) = 0
local_word w Unknown = 0

-- the statement that a label names
unfoldable pub label_target : List ℕ → Meaning → ℕ
label_target z (Let m) = 0
label_target z (Parameter j) = 0
label_target z (Label j) = label_number z j
label_target z Unknown = 0

-- label j as the callee of a call: an imported function is called by its label row, any other by its statement
unfoldable pub called_label : List ℕ → List ℕ → ℕ → ℕ
called_label y z j = if_eq (label_kind y j) import_label j (label_number z j)

unfoldable pub callee_target : List ℕ → List ℕ → Meaning → ℕ
callee_target y z (Let m) = 0
callee_target y z (Parameter j) = 0
callee_target y z (Label j) = called_label y z j
callee_target y z Unknown = 0

-- the name is that of an imported function
unfoldable pub is_imported : List ℕ → Meaning → Bool
is_imported y (Let m) = false
is_imported y (Parameter j) = false
is_imported y (Label j) = eqb (label_kind y j) import_label
is_imported y Unknown = false

-- "A value is a local or a data label (its address)."
unfoldable pub plain_operand : List ℕ → List ℕ → Meaning → Operand
plain_operand w z (Let m) = Local (word_of_let w m)
plain_operand w z (Parameter j) = Local (word_of_parameter j)
plain_operand w z (Label j) = Address (label_number z j)
plain_operand w z Unknown = Unlisted

-- behind an `@`: the word at that address
unfoldable pub at_operand : List ℕ → List ℕ → Meaning → Operand
at_operand w z (Let m) = AtLocal (word_of_let w m)
at_operand w z (Parameter j) = AtLocal (word_of_parameter j)
at_operand w z (Label j) = AtAddress (label_number z j)
at_operand w z Unknown = Unlisted

-- ---- operands

-- a token without a name: an integer or a substitute, or `@` and one of these, of a value
unfoldable pub constant_operand : ℕ → ℕ → Operand
constant_operand kind v =
    if_eq kind token.integer (Constant v)
    (if_eq kind token.substitute (Constant v)
    (if_eq kind token.at_integer (AtConstant v)
    (if_eq kind token.at_substitute (AtConstant v) Unlisted)))

-- the operand that token i writes
unfoldable pub token_operand : (ℕ → ℕ → Bool) → List ℕ → List ℕ → List ℕ → ℕ → List ℕ → List ℕ → ℕ → ℕ → Operand
token_operand same t k y l w z r i =
    if_eq (kind_at t i) token.symbol (plain_operand w z (meaning_of same k y l r i))
    (if_eq (kind_at t i) token.at_symbol (at_operand w z (meaning_of same k y l r i))
    (constant_operand (kind_at t i) (value_at t i)))

-- `set @`: what is behind the `@` is the address
unfoldable pub address_constant : ℕ → ℕ → Operand
address_constant kind v = if_eq kind token.at_integer (Constant v) (if_eq kind token.at_substitute (Constant v) Unlisted)

unfoldable pub address_operand : (ℕ → ℕ → Bool) → List ℕ → List ℕ → List ℕ → ℕ → List ℕ → List ℕ → ℕ → ℕ → Operand
address_operand same t k y l w z r i =
    if_eq (kind_at t i) token.at_symbol (plain_operand w z (meaning_of same k y l r i)) (address_constant (kind_at t i) (value_at t i))

-- so many operands from token i on
unfoldable pub operands_from : ℕ → (ℕ → ℕ → Bool) → List ℕ → List ℕ → List ℕ → ℕ → List ℕ → List ℕ → ℕ → ℕ → List Operand
operands_from zero same t k y l w z r i = []
operands_from (suc left) same t k y l w z r i = token_operand same t k y l w z r i ∷ operands_from left same t k y l w z r (i + 1)

-- slot j of a row with so many operands from token first on
unfoldable pub slot_operand : (ℕ → ℕ → Bool) → List ℕ → List ℕ → List ℕ → ℕ → List ℕ → List ℕ → ℕ → ℕ → ℕ → ℕ → Operand
slot_operand same t k y l w z r first count j = if_lt j count (token_operand same t k y l w z r (first + j)) Unlisted

-- an operand's two words
abbrev pub operand_words : Operand → List ℕ
operand_words o = operand_kind o ∷ operand_number o ∷ []

-- ---- the words of a row of a kind whose magic word is followed by token i

-- `set`: the local's word; `goto`: the statement; else the frame word
unfoldable pub aOf : (ℕ → ℕ → Bool) → List ℕ → List ℕ → ℕ → List ℕ → List ℕ → ℕ → ℕ → ℕ → ℕ
aOf same k y l w z r sort i =
    if_eq sort kind.set (local_word w (meaning_of same k y l r i))
    (if_eq sort kind.goto (label_target z (meaning_of same k y l r i))
    (get_or w r 0))

-- parameters of a function, own lets of a block, in c rows
unfoldable pub bOf : List ℕ → ℕ → ℕ → ℕ → ℕ
bOf k c r sort = if_eq sort kind.function (row_at k r).b (if_eq sort kind.block (lets_before (row_at k) r c) 0)

-- the expression's kind, token i naming the function that it calls, 0 for none: "a call to such a name" (02, 3) has a kind of its own
unfoldable pub expr_of : (ℕ → ℕ → Bool) → List ℕ → List ℕ → ℕ → ℕ → ℕ → ℕ → ℕ
expr_of same k y l r expr i = if_eq i no_callee expr (if_true (is_imported y (meaning_of same k y l r i)) import_expression expr)

-- of a block the locals in scope before it; else the function that token i names, 0 for no token
unfoldable pub callee_of : (ℕ → ℕ → Bool) → List ℕ → List ℕ → ℕ → List ℕ → ℕ → ℕ → ℕ → ℕ
callee_of same k y l z r sort i =
    if_eq sort kind.block (locals_at (row_at k) r % word_values)
    (if_eq i no_callee 0 (callee_target y z (meaning_of same k y l r i)))

-- the operand behind the `@` of `set @`
unfoldable pub address_of : (ℕ → ℕ → Bool) → List ℕ → List ℕ → List ℕ → ℕ → List ℕ → List ℕ → ℕ → ℕ → ℕ → Operand
address_of same t k y l w z r sort i = if_eq sort kind.set_at (address_operand same t k y l w z r i) Unlisted

-- ---- rows

-- row r of c, of a kind, with its magic word's token, the token behind its line, and its parts
unfoldable pub row_with : (ℕ → ℕ → Bool) → List ℕ → List ℕ → List ℕ → ℕ → List ℕ → List ℕ → ℕ → ℕ → ℕ → ℕ → ℕ → Parts → Row
row_with same t k y l w z c r kind first next p =
    record {
      kind = kind;
      func = (row_at k r).func;
      scope = (row_at k r).scope;
      up = (row_at k r).up;
      a = aOf same k y l w z r kind (first + 1);
      b = bOf k c r kind;
      expr = expr_of same k y l r p.expr p.callee;
      callee = callee_of same k y l z r kind p.callee;
      count = next - p.first;
      address = address_of same t k y l w z r kind (first + 1);
      operands = operands_from (min (next - p.first) operand_slots) same t k y l w z r p.first;
    }

unfoldable pub row_of : (ℕ → ℕ → Bool) → List ℕ → List ℕ → List ℕ → ℕ → List ℕ → List ℕ → ℕ → ℕ → Row
row_of same t k y l w z c r =
    row_with same t k y l w z c r (row_at k r).kind (first_token k r) (end_token k r) (parts_of t (row_at k r).kind (first_token k r) (end_token k r))

-- words 0 to 10 of a row
unfoldable pub head_of : Row → Head
head_of x =
    record {
      kind = x.kind;
      func = x.func;
      scope = x.scope;
      up = x.up;
      a = x.a;
      b = x.b;
      expr = x.expr;
      callee = x.callee;
      count = x.count;
      form = operand_kind x.address;
      address = operand_number x.address;
    }

abbrev pub head_words : Head → List ℕ
head_words h =
    h.kind ∷ h.func ∷ h.scope ∷ h.up ∷ h.a ∷ h.b ∷ h.expr ∷ h.callee ∷ h.count ∷ h.form ∷ h.address ∷ []

-- ---- the table

-- words at a place of a buffer
unfoldable pub put_words : List ℕ → ℕ → List ℕ → List ℕ
put_words out at ws = take at out ++ ws ++ drop (at + length ws) out

-- a row's 27 words at its place
unfoldable pub put_row : List ℕ → ℕ → Row → List ℕ
put_row out r x = take (r * statement_row) out ++ encode x ++ drop (r * statement_row + statement_row) out

-- rows 0 to n - 1 of c
unfoldable pub rows_below : ℕ → (ℕ → ℕ → Bool) → List ℕ → List ℕ → List ℕ → ℕ → List ℕ → List ℕ → ℕ → List ℕ → List ℕ
rows_below zero same t k y l w z c out = out
rows_below (suc n) same t k y l w z c out = put_row (rows_below n same t k y l w z c out) n (row_of same t k y l w z c n)

-- c rows; what is behind them in the buffer is as it was
unfoldable pub statement_table : (ℕ → ℕ → Bool) → List ℕ → List ℕ → List ℕ → ℕ → List ℕ → List ℕ → ℕ → List ℕ → List ℕ
statement_table same t k y l w z c out = rows_below c same t k y l w z c out
