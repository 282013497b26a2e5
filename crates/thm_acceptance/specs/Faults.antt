-- The faults that the rules on names find in the WHOLE source, in source order: 10 to 13 in labels and statements, then 10, 11 and 17 in exports
-- and imports.
-- t the tokens of a source of n bytes, k the rows, y the l label rows; `same` says whether two tokens have one name.
-- Assumes nothing.
use Rattle.std.specs.Prelude.{ℕ, zero, suc, ◌+◌, ◌-◌, Bool, List, [], ◌∷◌, ◌++◌, length}
use Rattle.base_prelude.specs.Choice.{if_eq}
use Rattle.lang_kinds.specs.Kinds as kind
use Rattle.lang_kinds.specs.Tokens as token
use Rattle.parse_lines.specs.Tokens.{kind_at}
use Rattle.parse_lines.specs.Units.{unit_at}
use Rattle.parse_lines.specs.Lines.{line_kind}
use Rattle.parse_lines.specs.declared.Span.{Span}
use Rattle.prog_tables.specs.Statement.{Row, row_at}
use Rattle.res_scope.specs.Lines.{first_token, end_token}
use Rattle.res_scope.specs.Names.{meaning_of}
use Rattle.res_scope.specs.Parts.{no_callee, parts_of}
use Rattle.res_scope.specs.declared.Parts.{Parts}
use Rattle.res_names.specs.Naming.{value_fault, set_fault, callee_fault, goto_fault, let_fault, parameter_fault, label_fault}
use Rattle.res_exports.specs.Exports.{definition_from, carried_by, export_fault, import_fault}

-- ---- labels: so many from label j on

unfoldable pub label_faults : ℕ → (ℕ → ℕ → Bool) → List ℕ → ℕ → List ℕ → ℕ → ℕ → List ℕ
label_faults zero same t n y l j = []
label_faults (suc left) same t n y l j = label_fault same t n y l j ∷ label_faults left same t n y l (j + 1)

-- ---- the statement at row r

-- an operand with a name: a symbol, or `@` and one
unfoldable pub operand_fault : (ℕ → ℕ → Bool) → List ℕ → ℕ → List ℕ → List ℕ → ℕ → ℕ → ℕ → List ℕ
operand_fault same t n k y l r i =
    if_eq (kind_at t i) token.symbol (value_fault t n y i (meaning_of same k y l r i) ∷ [])
    (if_eq (kind_at t i) token.at_symbol (value_fault t n y i (meaning_of same k y l r i) ∷ [])
    [])

-- operands from token i on, so many
unfoldable pub operand_faults : ℕ → (ℕ → ℕ → Bool) → List ℕ → ℕ → List ℕ → List ℕ → ℕ → ℕ → ℕ → List ℕ
operand_faults zero same t n k y l r i = []
operand_faults (suc left) same t n k y l r i = operand_fault same t n k y l r i ++ operand_faults left same t n k y l r (i + 1)

-- the function that is called
unfoldable pub callee_faults : (ℕ → ℕ → Bool) → List ℕ → ℕ → List ℕ → List ℕ → ℕ → ℕ → ℕ → ℕ → List ℕ
callee_faults same t n k y l r i count = if_eq i no_callee [] (callee_fault t n k y i count (meaning_of same k y l r i) ∷ [])

-- so many parameters from token q on
unfoldable pub parameter_faults : ℕ → (ℕ → ℕ → Bool) → List ℕ → ℕ → List ℕ → ℕ → ℕ → List ℕ
parameter_faults zero same t n k r q = []
parameter_faults (suc left) same t n k r q = parameter_fault same t n k r q ∷ parameter_faults left same t n k r (q + 1)

-- the names that a function's line and a let declare
unfoldable pub declared_faults : (ℕ → ℕ → Bool) → List ℕ → ℕ → List ℕ → ℕ → ℕ → List ℕ
declared_faults same t n k r sort =
    if_eq sort kind.function (parameter_faults (end_token k r - (first_token k r + 1)) same t n k r (first_token k r + 1))
    (if_eq sort kind.let_local (let_fault same t n k r (first_token k r + 1) ∷ [])
    [])

-- the name behind the magic word: of `set`, of `set @`, of `goto`
unfoldable pub head_faults : (ℕ → ℕ → Bool) → List ℕ → ℕ → List ℕ → List ℕ → ℕ → ℕ → ℕ → ℕ → List ℕ
head_faults same t n k y l r sort i =
    if_eq sort kind.set (set_fault t n i (meaning_of same k y l r i) ∷ [])
    (if_eq sort kind.set_at (operand_fault same t n k y l r i)
    (if_eq sort kind.goto (goto_fault t n k y r i (meaning_of same k y l r i) ∷ [])
    []))

-- the rest: the function that is called, then the operands
unfoldable pub body_faults : (ℕ → ℕ → Bool) → List ℕ → ℕ → List ℕ → List ℕ → ℕ → ℕ → Parts → ℕ → List ℕ
body_faults same t n k y l r p next =
    callee_faults same t n k y l r p.callee (next - p.first) ++ operand_faults (next - p.first) same t n k y l r p.first

unfoldable pub statement_faults : (ℕ → ℕ → Bool) → List ℕ → ℕ → List ℕ → List ℕ → ℕ → ℕ → List ℕ
statement_faults same t n k y l r =
    declared_faults same t n k r (row_at k r).kind
    ++ (head_faults same t n k y l r (row_at k r).kind (first_token k r + 1)
    ++ body_faults same t n k y l r (parts_of t (row_at k r).kind (first_token k r) (end_token k r)) (end_token k r))

-- so many statements from row r on
unfoldable pub statements_faults : ℕ → (ℕ → ℕ → Bool) → List ℕ → ℕ → List ℕ → List ℕ → ℕ → ℕ → List ℕ
statements_faults zero same t n k y l r = []
statements_faults (suc left) same t n k y l r = statement_faults same t n k y l r ++ statements_faults left same t n k y l (r + 1)

-- l labels and c statements
unfoldable pub all_name_faults : (ℕ → ℕ → Bool) → List ℕ → ℕ → List ℕ → List ℕ → ℕ → ℕ → List ℕ
all_name_faults same t n k y l c = label_faults l same t n y l 0 ++ statements_faults c same t n k y l 0

-- ---- exports and imports; `uses` has the first token that means each label

-- the line whose unit is u
unfoldable pub line_faults : (ℕ → ℕ → Bool) → List ℕ → ℕ → List ℕ → ℕ → List ℕ → Span → ℕ → List ℕ
line_faults same t n y l uses u k =
    if_eq k kind.export
    (export_fault same t n y l uses (u.word + 1) (carried_by same y l (definition_from t u.next).first (definition_from t u.next).word (u.word + 1)) ∷ [])
    (if_eq k kind.import_line (import_fault t n y l uses (u.word + 1) ∷ []) [])

-- unit after unit from a token on, to the source's end
unfoldable pub export_faults_from : ℕ → (ℕ → ℕ → Bool) → List ℕ → ℕ → List ℕ → ℕ → List ℕ → ℕ → List ℕ
export_faults_from zero same t n y l uses at = []
export_faults_from (suc left) same t n y l uses at =
    if_eq (line_kind t (unit_at t at).word) kind.edge []
    (line_faults same t n y l uses (unit_at t at) (line_kind t (unit_at t at).word) ++ export_faults_from left same t n y l uses (unit_at t at).next)

unfoldable pub export_faults : (ℕ → ℕ → Bool) → List ℕ → ℕ → List ℕ → ℕ → List ℕ → List ℕ
export_faults same t n y l uses = export_faults_from (suc (length t)) same t n y l uses 0
