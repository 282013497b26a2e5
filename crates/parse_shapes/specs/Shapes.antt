-- Shapes of lines: how many tokens stand behind the magic word, and of which kinds.
-- "An operand is an integer, a name, or `@` and one of these; an expression is an operand, or an operator with operands."
-- Assumes nothing.
use Rattle.std.specs.Prelude.{ℕ, ◌+◌, ◌-◌, ◌^◌, Bool, true, false, List, [], ◌∷◌}
use Rattle.base_prelude.specs.Choice.{if_lt, if_eq, if_true}
use Rattle.base_limits.specs.Limits.{alignment}
use Rattle.base_limits.specs.Width.{bits_of}
use Rattle.base_limits.specs.declared.Width.{Width}
use Rattle.lang_kinds.specs.Kinds as kind
use Rattle.lang_kinds.specs.Tokens as token
use Rattle.lang_words.specs.Numbers as word
use Rattle.lang_words.specs.Substitutes as substitute
use Rattle.lang_words.specs.Words.{least_operands, most_operands}
use Rattle.parse_lines.specs.Tokens.{kind_at, word_at, value_at, all_from}
use Rattle.parse_lines.specs.declared.Span.{Span}

-- a plain symbol
unfoldable pub is_name : List ℕ → ℕ → Bool
is_name t i = if_eq (kind_at t i) token.symbol true false

-- an integer; substitutes are "integers everywhere"
unfoldable pub is_integer : List ℕ → ℕ → Bool
is_integer t i = if_eq (kind_at t i) token.integer true (if_eq (kind_at t i) token.substitute true false)

unfoldable pub is_string : List ℕ → ℕ → Bool
is_string t i = if_eq (kind_at t i) token.string true false

-- operands from i to the line's end
unfoldable pub operands_from : List ℕ → ℕ → ℕ → Bool
operands_from t i next = all_from t token.symbol token.string i next

-- a function's name at i, then its arguments
unfoldable pub call_from : List ℕ → ℕ → ℕ → Bool
call_from t i next = if_true (is_name t i) (operands_from t (i + 1) next) false

-- an operator's word
unfoldable pub is_operator : ℕ → Bool
is_operator w = if_lt w word.add false (if_lt w word.past_words true false)

-- an operator with exactly its operands
unfoldable pub operator_from : List ℕ → ℕ → ℕ → Bool
operator_from t i next = if_eq (next - (i + 1)) (least_operands (word_at t i)) (operands_from t (i + 1) next) false

-- one operand
unfoldable pub operand_at : List ℕ → ℕ → ℕ → Bool
operand_at t i next = if_eq next (i + 1) (operands_from t i next) false

-- an expression whose first token is a symbol
unfoldable pub symbol_from : List ℕ → ℕ → ℕ → Bool
symbol_from t i next =
    if_eq (word_at t i) word.call (call_from t (i + 1) next)
    (if_true (is_operator (word_at t i)) (operator_from t i next)
    (operand_at t i next))

-- an expression from i to the line's end
unfoldable pub expression_from : List ℕ → ℕ → ℕ → Bool
expression_from t i next = if_true (is_name t i) (symbol_from t i next) (operand_at t i next)

-- the tokens behind the magic word
abbrev pub operand_count : Span → ℕ
operand_count u = u.next - (u.word + 1)

-- what stands behind the magic word
pub data Shape : Type 0 where
  -- nothing, or the word by which the kind is known: `section data`
  Bare : Shape
  -- what an `end` closes
  Closing : Shape
  -- names to the line's end
  Names : Shape
  Name : Shape
  Integer : Shape
  OptionalInteger : Shape
  String : Shape
  -- as many operands as the word list says
  Operands : Shape
  -- a test's word with its operands
  Test : Shape
  -- a function's name and its arguments
  Call : Shape
  OptionalExpression : Shape
  NameAndExpression : Shape
  -- `@` and a name or an integer, then an expression
  AddressAndExpression : Shape
  -- no line has this kind
  NoShape : Shape

-- a production of the grammar: a kind of line and its shape
pub record Production : Type 0 where
  pub kind : ℕ
  pub shape : Shape

abbrev pub production : ℕ → Shape → Production
production k s = record { kind = k; shape = s }

-- one line per kind, in the order of 000 and 001
unfoldable pub shapes : List Production
shapes =
    production kind.edge Bare ∷
    production kind.section_data Bare ∷
    production kind.section_functions Bare ∷
    production kind.import_line Name ∷
    production kind.export Name ∷
    production kind.align OptionalInteger ∷
    production kind.byte Integer ∷
    production kind.word Integer ∷
    production kind.string String ∷
    production kind.group Bare ∷
    production kind.end_group Closing ∷
    production kind.function Names ∷
    production kind.end_function Closing ∷
    production kind.block Bare ∷
    production kind.end_block Closing ∷
    production kind.call Call ∷
    production kind.goto Name ∷
    production kind.ifeq Operands ∷
    production kind.ifge Operands ∷
    production kind.ifgt Operands ∷
    production kind.ifle Operands ∷
    production kind.iflt Operands ∷
    production kind.ifne Operands ∷
    production kind.else Bare ∷
    production kind.else_if Test ∷
    production kind.end_if Closing ∷
    production kind.let_local NameAndExpression ∷
    production kind.return OptionalExpression ∷
    production kind.set NameAndExpression ∷
    production kind.set_at AddressAndExpression ∷
    production kind.set_byte Operands ∷
    production kind.set_word Operands ∷
    production kind.tail_call Call ∷
    []

unfoldable pub shape_in : List Production → ℕ → Shape
shape_in [] k = NoShape
shape_in (x ∷ xs) k = if_eq k x.kind x.shape (shape_in xs k)

unfoldable pub shape_of : ℕ → Shape
shape_of k = shape_in shapes k

-- whether a line has a shape; how many tokens it may have the word list says
unfoldable pub is_shaped : List ℕ → Span → Shape → Bool
is_shaped t u Bare = true
is_shaped t u Closing = true
is_shaped t u Names = all_from t token.symbol token.substitute (u.word + 1) u.next
is_shaped t u Name = is_name t (u.word + 1)
is_shaped t u Integer = is_integer t (u.word + 1)
is_shaped t u OptionalInteger = if_eq (operand_count u) 0 true (is_integer t (u.word + 1))
is_shaped t u String = is_string t (u.word + 1)
is_shaped t u Operands = operands_from t (u.word + 1) u.next
is_shaped t u Test = if_eq (operand_count u) 3 (operands_from t (u.word + 2) u.next) false
is_shaped t u Call = call_from t (u.word + 1) u.next
is_shaped t u OptionalExpression = if_eq (operand_count u) 0 true (expression_from t (u.word + 1) u.next)
is_shaped t u NameAndExpression = if_true (is_name t (u.word + 1)) (expression_from t (u.word + 2) u.next) false
is_shaped t u AddressAndExpression = expression_from t (u.word + 2) u.next
is_shaped t u NoShape = false

unfoldable pub form_fits : List ℕ → Span → ℕ → Bool
form_fits t u k = is_shaped t u (shape_of k)

-- lines that end in a list of parameters or arguments: one too many is a passed limit (14) and no wrong shape
unfoldable pub ends_in_list : Shape → Bool
ends_in_list Bare = false
ends_in_list Closing = false
ends_in_list Names = true
ends_in_list Name = false
ends_in_list Integer = false
ends_in_list OptionalInteger = false
ends_in_list String = false
ends_in_list Operands = false
ends_in_list Test = false
ends_in_list Call = true
ends_in_list OptionalExpression = true
ends_in_list NameAndExpression = true
ends_in_list AddressAndExpression = true
ends_in_list NoShape = false

unfoldable pub is_listed : ℕ → Bool
is_listed k = ends_in_list (shape_of k)

-- "One constant table gives each word its operand count."
unfoldable pub count_fits : List ℕ → Span → ℕ → Bool
count_fits t u k =
    if_lt (operand_count u) (least_operands (word_at t u.word)) false
    (if_true (is_listed k) true
    (if_lt (most_operands (word_at t u.word)) (operand_count u) false true))

-- a value that is known: an integer, or a substitute that stands for one
unfoldable pub is_known : List ℕ → ℕ → Bool
is_known t i =
    if_eq (kind_at t i) token.integer true
    (if_eq (kind_at t i) token.substitute
    (if_eq (word_at t i) substitute.bits_per_word true (if_eq (word_at t i) substitute.bytes_per_word true false))
    false)

-- "`byte` -128 to 255 .. by its word's signed value"
unfoldable pub byte_fits : Width → ℕ → Bool
byte_fits w v = if_lt v 256 true (if_lt v (2 ^ bits_of w - 128) false true)

-- "`align` takes 1 to 4,096"
unfoldable pub align_fits : ℕ → Bool
align_fits v = if_lt v 1 false (if_lt alignment v false true)

-- "Out of range here is refusal 7."
unfoldable pub range_fits : Width → List ℕ → Span → ℕ → Bool
range_fits w t u k =
    if_true (is_known t (u.word + 1))
    (if_eq k kind.byte (byte_fits w (value_at t (u.word + 1)))
    (if_eq k kind.align (align_fits (value_at t (u.word + 1)))
    true))
    true

-- a line of a known kind in right shape
unfoldable pub shape_fits : Width → List ℕ → Span → ℕ → Bool
shape_fits w t u k =
    if_true (count_fits t u k) (if_true (form_fits t u k) (range_fits w t u k) false) false
