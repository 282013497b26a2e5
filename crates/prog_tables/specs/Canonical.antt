-- Canonical tables: every word that a row's kind does not use is 0, and what lies beyond the rows is 0.
-- Assumes nothing.
use Rattle.std.specs.Prelude.{◌≡◌, ℕ, ◌+◌, ◌*◌, Bool, true, List, [], ◌∷◌, ltb, eqb, get_or, drop}
use Rattle.base_prelude.specs.Choice.{if_lt, if_eq}
use Rattle.base_limits.specs.Limits.{name_bytes}
use Rattle.lang_kinds.specs.Kinds as kind
use Rattle.prog_tables.specs.StatementRow as row
use Rattle.prog_tables.specs.Layout.{statement_row, label_row, import_label}
use Rattle.prog_tables.specs.Tests.{both, one_of, all, all_of, all_below}
use Rattle.prog_tables.specs.Statement.{Row, has_expression, is_call_row, is_call, is_import, used_by, row_at}
use Rattle.prog_tables.specs.Label.{Tables, label_at}
use Rattle.prog_tables.specs.Nesting.{has_target}
use Rattle.prog_tables.specs.Faults.{has_word}
use Rattle.prog_tables.specs.WellFormed.{has_operands}

-- a row uses its word j
unfoldable pub uses_word : Row → ℕ → Bool
uses_word r j =
    if_lt j row.a true
    (if_eq j row.a (one_of (eqb r.kind kind.function) (one_of (has_word r.kind) (one_of (has_target r.kind) (eqb r.kind kind.goto))))
    (if_eq j row.b (one_of (eqb r.kind kind.function) (eqb r.kind kind.block))
    (if_eq j row.expr (one_of (has_expression r.kind) (is_call_row r.kind))
    (if_eq j row.callee (one_of (eqb r.kind kind.block) (one_of (is_call r.kind r.expr) (is_import r.kind r.expr)))
    (if_eq j row.count (has_operands r.kind)
    (if_lt j row.operands (eqb r.kind kind.set_at)
    (ltb j (row.operands + 2 * used_by r.kind r.expr r.count))))))))

unfoldable pub unused_zero : List ℕ → ℕ → Bool
unused_zero t n = all_below (λ j. one_of (uses_word (row_at t n) j) (eqb (get_or t (n * statement_row + j) 0) 0)) statement_row

-- the arguments of a label row that is none of an imported function, and the bytes behind its name
unfoldable pub label_unused_zero : List ℕ → List ℕ → ℕ → Bool
label_unused_zero t names n =
    both (one_of (eqb (label_at t names n).kind import_label) (eqb (label_at t names n).arguments 0))
    (all_below (λ j. one_of (ltb j (label_at t names n).size) (eqb (get_or names (n * name_bytes + j) 0) 0)) name_bytes)

unfoldable pub zero_from : ℕ → List ℕ → Bool
zero_from n t = all_of (λ x. eqb x 0) (drop n t)

unfoldable pub canonical : Tables → Bool
canonical t =
    all
    (all_below (unused_zero t.statements) t.count
    ∷ all_below (label_unused_zero t.labels t.names) t.label_count
    ∷ zero_from (t.count * statement_row) t.statements
    ∷ zero_from (t.label_count * label_row) t.labels
    ∷ zero_from (t.label_count * name_bytes) t.names
    ∷ [])

abbrev pub Canonical : Tables → Type 0
Canonical t = canonical t ≡ true
