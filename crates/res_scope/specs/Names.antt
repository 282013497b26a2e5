-- What a name means: "The innermost local wins, then the label." Whether two tokens have one name is a parameter, `same`: by their decoded
-- bytes (crate check_source) or by the numbers that the lexer gave them.
-- Assumes nothing.
use Rattle.std.specs.Prelude.{ℕ, zero, suc, ◌+◌, ◌-◌, Bool, false, List, eqb, ltb}
use Rattle.base_prelude.specs.Choice.{pick, if_lt, if_eq, if_true}
use Rattle.lang_kinds.specs.Kinds as kind
use Rattle.lang_kinds.specs.Tokens as token
use Rattle.lang_kinds.specs.TokenRow as field
use Rattle.parse_lines.specs.Tokens.{token_word, kind_at}
use Rattle.prog_tables.specs.Tests.{first_from}
use Rattle.prog_tables.specs.Statement.{row_at}
use Rattle.prog_tables.specs.Nesting.{encloses}
use Rattle.prog_tables.specs.Frames.{frame_depth, is_in}
use Rattle.res_scope.specs.Lines.{first_token, end_token, label_token}
use Rattle.res_scope.specs.declared.Meaning.{Meaning}
use Rattle.res_scope.specs.declared.Meaning.TheVariants.{Let, Parameter, Label, Unknown}

-- a token with a name: a label, a symbol, a substitute, or `@` and one of the last two
unfoldable pub has_name : List ℕ → ℕ → Bool
has_name t i = if_lt (kind_at t i) token.label false (ltb (kind_at t i) token.integer)

-- two tokens have one name, by the numbers of their names
unfoldable pub same_number : List ℕ → ℕ → ℕ → Bool
same_number t i j = if_true (has_name t i) (if_true (has_name t j) (eqb (token_word t i field.name) (token_word t j field.name)) false) false

-- the last of `left` numbers from a base on that passes, plus one; 0 without any
unfoldable pub last_from : (ℕ → Bool) → ℕ → ℕ → ℕ
last_from p zero base = 0
last_from p (suc left) base = pick (p (base + left)) (suc (base + left)) (last_from p left base)

-- row m is a let of the name of token i, in a frame around frame s
unfoldable pub let_named : (ℕ → ℕ → Bool) → List ℕ → ℕ → ℕ → ℕ → Bool
let_named same k s i m =
    if_eq (row_at k m).kind kind.let_local
    (if_true (same (first_token k m + 1) i) (encloses (row_at k) frame_depth (row_at k m).scope s) false)
    false

-- row m is a let of that name in frame s itself
unfoldable pub let_here : (ℕ → ℕ → Bool) → List ℕ → ℕ → ℕ → ℕ → Bool
let_here same k s i m = if_true (is_in (row_at k) kind.let_local s m) (same (first_token k m + 1) i) false

abbrev pub label_named : (ℕ → ℕ → Bool) → List ℕ → ℕ → ℕ → Bool
label_named same y i j = same (label_token y j) i

abbrev pub parameter_named : (ℕ → ℕ → Bool) → ℕ → ℕ → Bool
parameter_named same i q = same q i

-- "A local is seen from after its whole `let` to the end of its function or block": the let that token i means at row n, plus one.
-- Lets of inner frames stand behind those of outer ones, so the last is the innermost
unfoldable pub let_of : (ℕ → ℕ → Bool) → List ℕ → ℕ → ℕ → ℕ
let_of same k n i = last_from (let_named same k (row_at k n).scope i) (n - (row_at k n).func) (row_at k n).func

-- the parameter of function f with the name of token i, as its token; at or behind the line's end for none
unfoldable pub parameter_of : (ℕ → ℕ → Bool) → List ℕ → ℕ → ℕ → ℕ
parameter_of same k f i = first_from (parameter_named same i) (end_token k f - (first_token k f + 1)) (first_token k f + 1)

-- "Labels share one space": the first of l labels with the name of token i; l for none
unfoldable pub label_of : (ℕ → ℕ → Bool) → List ℕ → ℕ → ℕ → ℕ
label_of same y l i = first_from (label_named same y i) l 0

unfoldable pub label_meaning : ℕ → ℕ → Meaning
label_meaning l j = if_lt j l (Label j) Unknown

-- the parameter whose token is q, or the label j
unfoldable pub outer_meaning : List ℕ → ℕ → ℕ → ℕ → ℕ → Meaning
outer_meaning k l f q j = if_lt q (end_token k f) (Parameter (q - (first_token k f + 1))) (label_meaning l j)

-- what token i means at row n
unfoldable pub meaning_of : (ℕ → ℕ → Bool) → List ℕ → List ℕ → ℕ → ℕ → ℕ → Meaning
meaning_of same k y l n i =
    if_eq (let_of same k n i) 0
    (outer_meaning k l (row_at k n).func (parameter_of same k (row_at k n).func i) (label_of same y l i))
    (Let (let_of same k n i - 1))
