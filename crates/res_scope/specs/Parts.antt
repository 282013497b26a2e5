-- The parts of a statement: its expression's kind (docs/TABLES.md), the token of the function it calls (0 for none), its first
-- operand token. Its operands go on to the end of the line.
-- Assumes nothing.
use Rattle.std.specs.Prelude.{ℕ, ◌+◌, Bool, true, false, List, ltb}
use Rattle.base_prelude.specs.Choice.{if_lt, if_eq, if_true}
use Rattle.lang_kinds.specs.Kinds as kind
use Rattle.lang_words.specs.Numbers as word
use Rattle.prog_tables.specs.Layout.{no_expression, plain, call_expression}
use Rattle.parse_lines.specs.Tokens.{word_at}
use Rattle.parse_shapes.specs.Shapes.{is_name, is_operator}
use Rattle.res_scope.specs.declared.Parts.{Parts}

abbrev pub parts : ℕ → ℕ → ℕ → Parts
parts expr callee first = record { expr = expr; callee = callee; first = first }

-- in the place of the token that names a function: none is called
abbrev pub no_callee : ℕ
no_callee = 0

-- an expression that starts with a symbol: `call`, an operator, or one operand
unfoldable pub symbol_parts : ℕ → ℕ → Parts
symbol_parts w i =
    if_eq w word.call (parts call_expression (i + 1) (i + 2))
    (if_true (is_operator w) (parts w no_callee (i + 1))
    (parts plain no_callee i))

-- "an expression is an operand, or an operator with operands"
unfoldable pub expression_parts : List ℕ → ℕ → Parts
expression_parts t i = if_true (is_name t i) (symbol_parts (word_at t i) i) (parts plain no_callee i)

-- `return` with an expression, or bare
unfoldable pub return_parts : List ℕ → ℕ → ℕ → Parts
return_parts t i next = if_lt i next (expression_parts t i) (parts no_expression no_callee next)

-- set-byte and set-word, and the tests: operands alone
unfoldable pub lists_operands : ℕ → Bool
lists_operands k = if_lt k kind.set_byte false (if_lt k kind.goto true (if_lt k kind.ifeq false (ltb k kind.else)))

-- statements without an expression; `call` and `tail-call` name a function first
unfoldable pub plain_parts : ℕ → ℕ → ℕ → Parts
plain_parts k i next =
    if_true (lists_operands k) (parts no_expression no_callee (i + 1))
    (if_eq k kind.call (parts call_expression (i + 1) (i + 2))
    (if_eq k kind.tail_call (parts call_expression (i + 1) (i + 2))
    (parts no_expression no_callee next)))

-- of a statement of a kind whose magic word is token i
unfoldable pub parts_of : List ℕ → ℕ → ℕ → ℕ → Parts
parts_of t k i next =
    if_eq k kind.return (return_parts t (i + 1) next)
    (if_lt k kind.let_local (parts no_expression no_callee next)
    (if_lt k kind.set_byte (expression_parts t (i + 2))
    (plain_parts k i next)))
