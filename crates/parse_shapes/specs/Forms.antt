-- Shapes as the code tests them, by ranges of kinds: they say what the table of specs/Shapes says (proofs/Forms, `forms-say`).
-- Assumes nothing.
use Rattle.std.specs.Prelude.{ℕ, ◌+◌, Bool, true, false, List, ltb}
use Rattle.base_prelude.specs.Choice.{if_lt, if_eq, if_true}
use Rattle.lang_kinds.specs.Kinds as kind
use Rattle.lang_kinds.specs.Tokens as token
use Rattle.parse_lines.specs.Tokens.{all_from}
use Rattle.parse_lines.specs.declared.Span.{Span}
use Rattle.parse_shapes.specs.Shapes.{is_name, is_integer, is_string, operands_from, call_from, expression_from, operand_count}

-- statements from `goto` on
unfoldable pub later_fits : List ℕ → Span → ℕ → Bool
later_fits t u k =
    if_eq k kind.goto (is_name t (u.word + 1))
    (if_lt k kind.return (call_from t (u.word + 1) u.next)
    (if_eq k kind.return (if_eq (operand_count u) 0 true (expression_from t (u.word + 1) u.next))
    (if_lt k kind.else (operands_from t (u.word + 1) u.next)
    (if_eq k kind.else_if (if_eq (operand_count u) 3 (operands_from t (u.word + 2) u.next) false)
    (ltb k kind.past_rows)))))

-- statements
unfoldable pub statement_fits : List ℕ → Span → ℕ → Bool
statement_fits t u k =
    if_eq k kind.function (all_from t token.symbol token.substitute (u.word + 1) u.next)
    (if_lt k kind.let_local true
    (if_lt k kind.set_at (if_true (is_name t (u.word + 1)) (expression_from t (u.word + 2) u.next) false)
    (if_eq k kind.set_at (expression_from t (u.word + 2) u.next)
    (if_lt k kind.goto (operands_from t (u.word + 1) u.next)
    (later_fits t u k)))))

-- lines that make no row
unfoldable pub other_fits : List ℕ → Span → ℕ → Bool
other_fits t u k =
    if_eq k kind.export (is_name t (u.word + 1))
    (if_eq k kind.align (if_eq (operand_count u) 0 true (is_integer t (u.word + 1)))
    (if_eq k kind.byte (is_integer t (u.word + 1))
    (if_eq k kind.word (is_integer t (u.word + 1))
    (if_eq k kind.string (is_string t (u.word + 1))
    (if_eq k kind.import_line (is_name t (u.word + 1))
    (ltb k kind.left_out))))))

unfoldable pub ranged_form : List ℕ → Span → ℕ → Bool
ranged_form t u k = if_lt k kind.section_data (statement_fits t u k) (other_fits t u k)
