-- The rules of 'Names' on statements and labels: 10, 11, 12 and 13, each at the name; the least of all is the answer. Beside it, for each
-- label, the first token that means it, which the rule on exports needs.
-- Assumes nothing.
use Rattle.std.specs.Prelude.{ℕ, zero, suc, ◌+◌, ◌-◌, min, Bool, true, false, List, length, get_or, set}
use Rattle.base_prelude.specs.Choice.{if_lt, if_eq, if_true}
use Rattle.base_prelude.specs.Fault.{none}
use Rattle.base_prelude.specs.Lists.{zeros}
use Rattle.base_limits.specs.Limits as limits
use Rattle.lang_kinds.specs.Kinds as kind
use Rattle.lang_kinds.specs.Tokens as token
use Rattle.parse_lines.specs.Tokens.{kind_at, key_at}
use Rattle.prog_tables.specs.Layout.{data_label, function_label, place_label, import_label}
use Rattle.prog_tables.specs.Tests.{first_from}
use Rattle.prog_tables.specs.Statement.{row_at}
use Rattle.res_scope.specs.Lines.{first_token, end_token, label_token, label_kind, label_statement, label_arguments}
use Rattle.res_scope.specs.Names.{let_here, parameter_of, label_of, meaning_of}
use Rattle.res_scope.specs.Parts.{no_callee, parts_of}
use Rattle.res_scope.specs.declared.Meaning.{Meaning}
use Rattle.res_scope.specs.declared.Meaning.TheVariants.{Let, Parameter, Label, Unknown}
use Rattle.res_scope.specs.declared.Parts.{Parts}

-- ---- the rules; t the tokens of a source of n bytes, k the rows, y the label rows, i the name's token

-- "A value is a local or a data label (its address)": label j
unfoldable pub data_fault : List ℕ → ℕ → List ℕ → ℕ → ℕ → ℕ
data_fault t n y i j = if_eq (label_kind y j) data_label none (key_at t n i 11)

unfoldable pub value_fault : List ℕ → ℕ → List ℕ → ℕ → Meaning → ℕ
value_fault t n y i (Let m) = none
value_fault t n y i (Parameter j) = none
value_fault t n y i (Label j) = data_fault t n y i j
value_fault t n y i Unknown = key_at t n i 10

-- "`set` takes a local."
unfoldable pub set_fault : List ℕ → ℕ → ℕ → Meaning → ℕ
set_fault t n i (Let m) = none
set_fault t n i (Parameter j) = none
set_fault t n i (Label j) = key_at t n i 11
set_fault t n i Unknown = key_at t n i 10

-- an imported name is called with its argument count: "names in a list that the host lends the check, [..] each with an argument count of 0 to 8.
-- [..] A call to such a name" (02, 3); label j, with so many arguments
unfoldable pub import_fault : List ℕ → ℕ → List ℕ → ℕ → ℕ → ℕ → ℕ
import_fault t n y i count j =
    if_eq (label_kind y j) import_label
    (if_eq (label_arguments y j) count none (key_at t n i 13))
    (key_at t n i 11)

-- "`call` and `tail-call` take a function label with its parameter count", or an imported name
unfoldable pub function_fault : List ℕ → ℕ → List ℕ → List ℕ → ℕ → ℕ → ℕ → ℕ
function_fault t n k y i count j =
    if_eq (label_kind y j) function_label
    (if_eq (row_at k (label_statement y j)).b count none (key_at t n i 13))
    (import_fault t n y i count j)

unfoldable pub callee_fault : List ℕ → ℕ → List ℕ → List ℕ → ℕ → ℕ → Meaning → ℕ
callee_fault t n k y i count (Let m) = key_at t n i 11
callee_fault t n k y i count (Parameter j) = key_at t n i 11
callee_fault t n k y i count (Label j) = function_fault t n k y i count j
callee_fault t n k y i count Unknown = key_at t n i 10

-- "`goto` takes a statement's label in the same function and innermost block": label j, at row r
unfoldable pub place_fault : List ℕ → ℕ → List ℕ → List ℕ → ℕ → ℕ → ℕ → ℕ
place_fault t n k y r i j =
    if_eq (label_kind y j) place_label
    (if_eq (row_at k (label_statement y j)).func (row_at k r).func
    (if_eq (row_at k (label_statement y j)).scope (row_at k r).scope none (key_at t n i 11))
    (key_at t n i 11))
    (key_at t n i 11)

unfoldable pub goto_fault : List ℕ → ℕ → List ℕ → List ℕ → ℕ → ℕ → Meaning → ℕ
goto_fault t n k y r i (Let m) = key_at t n i 11
goto_fault t n k y r i (Parameter j) = key_at t n i 11
goto_fault t n k y r i (Label j) = place_fault t n k y r i j
goto_fault t n k y r i Unknown = key_at t n i 10

-- a parameter of function f has the name of token i
unfoldable pub parameter_taken : (ℕ → ℕ → Bool) → List ℕ → ℕ → ℕ → Bool
parameter_taken same k f i = if_lt (parameter_of same k f i) (end_token k f) true false

-- "Two locals of one frame, parameters included, may not share a name": the let at row r, whose name is token i, in frame s
unfoldable pub local_taken : (ℕ → ℕ → Bool) → List ℕ → ℕ → ℕ → ℕ → Bool
local_taken same k s r i =
    if_lt (first_from (let_here same k s i) (r - s) s) r true
    (if_eq (row_at k s).kind kind.function (parameter_taken same k s i) false)

unfoldable pub let_fault : (ℕ → ℕ → Bool) → List ℕ → ℕ → List ℕ → ℕ → ℕ → ℕ
let_fault same t n k r i = if_true (local_taken same k (row_at k r).scope r i) (key_at t n i 12) none

-- of two parameters: the second, whose token is q
unfoldable pub parameter_fault : (ℕ → ℕ → Bool) → List ℕ → ℕ → List ℕ → ℕ → ℕ → ℕ
parameter_fault same t n k r q = if_lt (parameter_of same k r q) q (key_at t n q 12) none

-- "nor may two labels": the second, j
unfoldable pub label_fault : (ℕ → ℕ → Bool) → List ℕ → ℕ → List ℕ → ℕ → ℕ → ℕ
label_fault same t n y l j = if_lt (label_of same y l (label_token y j)) j (key_at t n (label_token y j) 12) none

-- ---- the least of all, and the uses of labels

pub record Naming : Type 0 where
  pub fault : ℕ
  -- for each label the first token that means it; 0 for none
  pub uses : List ℕ

abbrev pub naming : ℕ → List ℕ → Naming
naming fault uses = record { fault = fault; uses = uses }

unfoldable pub mark_use : ℕ → ℕ → List ℕ → List ℕ
mark_use i j u = if_lt j (length u) (if_eq (get_or u j 0) 0 (set u j i) u) u

unfoldable pub use_of : ℕ → Meaning → List ℕ → List ℕ
use_of i (Let m) u = u
use_of i (Parameter j) u = u
use_of i (Label j) u = mark_use i j u
use_of i Unknown u = u

-- a name is judged
unfoldable pub judged : ℕ → ℕ → Meaning → Naming → Naming
judged i fault m x = naming (min x.fault fault) (use_of i m x.uses)

-- ---- the parts of a statement, at row r

-- an operand with a name: a symbol, or `@` and one
unfoldable pub value_part : (ℕ → ℕ → Bool) → List ℕ → ℕ → List ℕ → List ℕ → ℕ → ℕ → ℕ → Naming → Naming
value_part same t n k y l r i x =
    if_eq (kind_at t i) token.symbol (judged i (value_fault t n y i (meaning_of same k y l r i)) (meaning_of same k y l r i) x)
    (if_eq (kind_at t i) token.at_symbol (judged i (value_fault t n y i (meaning_of same k y l r i)) (meaning_of same k y l r i) x)
    x)

-- operands from token i on, so many
unfoldable pub operands_part : ℕ → (ℕ → ℕ → Bool) → List ℕ → ℕ → List ℕ → List ℕ → ℕ → ℕ → ℕ → Naming → Naming
operands_part zero same t n k y l r i x = x
operands_part (suc left) same t n k y l r i x = operands_part left same t n k y l r (i + 1) (value_part same t n k y l r i x)

-- the function that is called
unfoldable pub callee_part : (ℕ → ℕ → Bool) → List ℕ → ℕ → List ℕ → List ℕ → ℕ → ℕ → ℕ → ℕ → Naming → Naming
callee_part same t n k y l r i count x =
    if_eq i no_callee x (judged i (callee_fault t n k y i count (meaning_of same k y l r i)) (meaning_of same k y l r i) x)

unfoldable pub set_part : (ℕ → ℕ → Bool) → List ℕ → ℕ → List ℕ → List ℕ → ℕ → ℕ → ℕ → Naming → Naming
set_part same t n k y l r i x = judged i (set_fault t n i (meaning_of same k y l r i)) (meaning_of same k y l r i) x

unfoldable pub goto_part : (ℕ → ℕ → Bool) → List ℕ → ℕ → List ℕ → List ℕ → ℕ → ℕ → ℕ → Naming → Naming
goto_part same t n k y l r i x = judged i (goto_fault t n k y r i (meaning_of same k y l r i)) (meaning_of same k y l r i) x

-- so many parameters from token q on: the least fault
unfoldable pub parameters_fault : ℕ → (ℕ → ℕ → Bool) → List ℕ → ℕ → List ℕ → ℕ → ℕ → ℕ → ℕ
parameters_fault zero same t n k r q best = best
parameters_fault (suc left) same t n k r q best = parameters_fault left same t n k r (q + 1) (min best (parameter_fault same t n k r q))

-- the names of a function's line, and of a let
unfoldable pub declared_fault : (ℕ → ℕ → Bool) → List ℕ → ℕ → List ℕ → ℕ → ℕ → ℕ → ℕ
declared_fault same t n k r sort best =
    if_eq sort kind.function (parameters_fault (end_token k r - (first_token k r + 1)) same t n k r (first_token k r + 1) best)
    (if_eq sort kind.let_local (min best (let_fault same t n k r (first_token k r + 1)))
    best)

-- the name behind the magic word: of `set`, of `set @`, of `goto`
unfoldable pub head_part : (ℕ → ℕ → Bool) → List ℕ → ℕ → List ℕ → List ℕ → ℕ → ℕ → ℕ → Naming → Naming
head_part same t n k y l r sort x =
    if_eq sort kind.set (set_part same t n k y l r (first_token k r + 1) x)
    (if_eq sort kind.set_at (value_part same t n k y l r (first_token k r + 1) x)
    (if_eq sort kind.goto (goto_part same t n k y l r (first_token k r + 1) x)
    x))

-- the rest: the function that is called, then the operands
unfoldable pub body_part : (ℕ → ℕ → Bool) → List ℕ → ℕ → List ℕ → List ℕ → ℕ → ℕ → Parts → ℕ → Naming → Naming
body_part same t n k y l r p next x =
    operands_part (next - p.first) same t n k y l r p.first (callee_part same t n k y l r p.callee (next - p.first) x)

-- statement r
unfoldable pub statement_part : (ℕ → ℕ → Bool) → List ℕ → ℕ → List ℕ → List ℕ → ℕ → ℕ → Naming → Naming
statement_part same t n k y l r x =
    body_part same t n k y l r (parts_of t (row_at k r).kind (first_token k r) (end_token k r)) (end_token k r)
    (head_part same t n k y l r (row_at k r).kind (naming (declared_fault same t n k r (row_at k r).kind x.fault) x.uses))

-- so many statements from row r on
unfoldable pub statements_part : ℕ → (ℕ → ℕ → Bool) → List ℕ → ℕ → List ℕ → List ℕ → ℕ → ℕ → Naming → Naming
statements_part zero same t n k y l r x = x
statements_part (suc left) same t n k y l r x = statements_part left same t n k y l (r + 1) (statement_part same t n k y l r x)

-- so many labels from label j on
unfoldable pub labels_fault : ℕ → (ℕ → ℕ → Bool) → List ℕ → ℕ → List ℕ → ℕ → ℕ → ℕ → ℕ
labels_fault zero same t n y l j best = best
labels_fault (suc left) same t n y l j best = labels_fault left same t n y l (j + 1) (min best (label_fault same t n y l j))

-- the names of c statements and l labels
unfoldable pub names_of : (ℕ → ℕ → Bool) → List ℕ → ℕ → List ℕ → List ℕ → ℕ → ℕ → Naming
names_of same t n k y l c =
    statements_part c same t n k y l 0 (naming (labels_fault l same t n y l 0 none) (zeros limits.labels))
