-- The first use of a label: the names that each statement holds as operands and targets, and the first that means the label. The rule
-- on exports needs it; t the tokens, k the rows, y the l label rows.
-- Assumes nothing.
use Rattle.std.specs.Prelude.{ℕ, zero, suc, ◌+◌, ◌-◌, Bool, false, List, [], ◌∷◌, ◌++◌, eqb}
use Rattle.base_prelude.specs.Choice.{pick, if_eq}
use Rattle.lang_kinds.specs.Kinds as kind
use Rattle.lang_kinds.specs.Tokens as token
use Rattle.parse_lines.specs.Tokens.{kind_at}
use Rattle.prog_tables.specs.Statement.{row_at}
use Rattle.res_scope.specs.Lines.{first_token, end_token}
use Rattle.res_scope.specs.Names.{meaning_of}
use Rattle.res_scope.specs.Parts.{no_callee, parts_of}
use Rattle.res_scope.specs.declared.Meaning.{Meaning}
use Rattle.res_scope.specs.declared.Meaning.TheVariants.{Let, Parameter, Label, Unknown}
use Rattle.res_scope.specs.declared.Parts.{Parts}

-- ---- the names of a statement, in the order of its line

-- an operand with a name: a symbol, or `@` and one
unfoldable pub operand_name : List ℕ → ℕ → List ℕ
operand_name t i = if_eq (kind_at t i) token.symbol (i ∷ []) (if_eq (kind_at t i) token.at_symbol (i ∷ []) [])

-- operands from token i on, so many
unfoldable pub operand_names : ℕ → List ℕ → ℕ → List ℕ
operand_names zero t i = []
operand_names (suc left) t i = operand_name t i ++ operand_names left t (i + 1)

-- the function that is called
unfoldable pub callee_names : ℕ → List ℕ
callee_names i = if_eq i no_callee [] (i ∷ [])

-- the name behind the magic word: of `set`, of `set @`, of `goto`
unfoldable pub head_names : List ℕ → ℕ → ℕ → List ℕ
head_names t sort i =
    if_eq sort kind.set (i ∷ [])
    (if_eq sort kind.set_at (operand_name t i)
    (if_eq sort kind.goto (i ∷ [])
    []))

unfoldable pub body_names : List ℕ → Parts → ℕ → List ℕ
body_names t p next = callee_names p.callee ++ operand_names (next - p.first) t p.first

unfoldable pub uses_in : List ℕ → List ℕ → ℕ → List ℕ
uses_in t k r =
    head_names t (row_at k r).kind (first_token k r + 1)
    ++ body_names t (parts_of t (row_at k r).kind (first_token k r) (end_token k r)) (end_token k r)

-- ---- the first that means label j

unfoldable pub is_label : ℕ → Meaning → Bool
is_label j (Let m) = false
is_label j (Parameter q) = false
is_label j (Label i) = eqb i j
is_label j Unknown = false

-- the first, or where it is 0, none, the second
unfoldable pub or_else : ℕ → ℕ → ℕ
or_else a b = if_eq a 0 b a

-- the first number of a list that passes; 0 for none
unfoldable pub first_among : (ℕ → Bool) → List ℕ → ℕ
first_among p [] = 0
first_among p (i ∷ is) = or_else (pick (p i) i 0) (first_among p is)

-- token i means label j at row r
abbrev pub means_label : (ℕ → ℕ → Bool) → List ℕ → List ℕ → ℕ → ℕ → ℕ → ℕ → Bool
means_label same k y l r j i = is_label j (meaning_of same k y l r i)

-- in so many statements from row r on
unfoldable pub first_use_from : ℕ → (ℕ → ℕ → Bool) → List ℕ → List ℕ → List ℕ → ℕ → ℕ → ℕ → ℕ
first_use_from zero same t k y l j r = 0
first_use_from (suc left) same t k y l j r =
    or_else (first_among (means_label same k y l r j) (uses_in t k r)) (first_use_from left same t k y l j (r + 1))

-- "the first operand or target that means its label", in c statements, as its token; 0 for none
unfoldable pub first_use : (ℕ → ℕ → Bool) → List ℕ → List ℕ → List ℕ → ℕ → ℕ → ℕ → ℕ
first_use same t k y l c j = first_use_from c same t k y l j 0
