-- Nesting, over a view of the rows: what is open before each row, the rule that ties a row to what is open before it, the next arm of an `if`,
-- and the targets of tests and `else`.
-- Assumes nothing.
use Rattle.std.specs.Prelude.{ℕ, zero, suc, ◌-◌, Bool, true, false, List, [], ◌∷◌, ltb, leb, eqb}
use Rattle.base_prelude.specs.Choice.{if_eq, if_true}
use Rattle.lang_kinds.specs.Kinds as kind
use Rattle.lang_kinds.specs.Grounds as ground
use Rattle.lang_kinds.specs.Nesting.{stands_in, enters, leaves, ground_of, is_frame}
use Rattle.prog_tables.specs.Tests.{both, given, all, first_from}
use Rattle.prog_tables.specs.Statement.{Row, is_test}

-- what is open behind row n, which is r: its number plus one, 0 for nothing
unfoldable pub behind : ℕ → Row → ℕ
behind n r = if_true (enters r.kind) (suc n) r.up

-- what is open before row n
unfoldable pub open_before : (ℕ → Row) → ℕ → ℕ
open_before f zero = 0
open_before f (suc n) = behind n (f n)

-- the ground on which a row stands: nothing open is the functions section
unfoldable pub ground_in : (ℕ → Row) → ℕ → ℕ
ground_in f o = if_eq o 0 ground.functions_section (ground_of (f (o - 1)).kind)

-- the function, the scope and `up` of row n of kind k, where the open row is r, of number o - 1
unfoldable pub func_in : ℕ → ℕ → Row → ℕ
func_in k n r = if_eq k kind.function n r.func

-- "A `block` line belongs to the frame outside, its `end block` to the block."
unfoldable pub scope_in : ℕ → ℕ → ℕ → Row → ℕ
scope_in k n o r = if_eq k kind.function n (if_true (is_frame r.kind) (o - 1) r.scope)

unfoldable pub up_in : ℕ → ℕ → Row → ℕ
up_in k o r = if_true (leaves k) r.up o

-- a kind that docs/TABLES.md lists
unfoldable pub is_listed : ℕ → Bool
is_listed k = if_eq k kind.edge false (ltb k kind.past_rows)

-- a kind may stand on a ground
unfoldable pub may_stand : ℕ → ℕ → Bool
may_stand k g = both (leb (stands_in k).start g) (ltb g (stands_in k).end)

-- "An `else if..` line is two statements: a jump to `end if`, then the test"
unfoldable pub follows_jump : (ℕ → Row) → ℕ → Bool
follows_jump f zero = false
follows_jump f (suc n) = eqb (f n).kind kind.else_if

-- row n is the one that its kind and what is open before it give: "each function, `if` and block closed by its own `end`, no
-- `let` in an `if` of its frame" (02, 7) are the grounds of crate lang_kinds
abbrev pub stands_tests : (ℕ → Row) → ℕ → List Bool
stands_tests f n =
    is_listed (f n).kind
    ∷ may_stand (f n).kind (ground_in f (open_before f n))
    ∷ given (follows_jump f n) (is_test (f n).kind)
    ∷ eqb (f n).func (func_in (f n).kind n (f (open_before f n - 1)))
    ∷ eqb (f n).scope (scope_in (f n).kind n (open_before f n) (f (open_before f n - 1)))
    ∷ eqb (f n).up (up_in (f n).kind (open_before f n) (f (open_before f n - 1)))
    ∷ []

unfoldable pub stands : (ℕ → Row) → ℕ → Bool
stands f n = all (stands_tests f n)

-- nothing is open behind the last of c rows
unfoldable pub all_closed : (ℕ → Row) → ℕ → Bool
all_closed f c = eqb (open_before f c) 0

-- ---- arms

-- row i is `else`, an else-if jump or `end if`, with u around it
unfoldable pub is_arm : (ℕ → Row) → ℕ → ℕ → Bool
is_arm f u i = both (eqb (f i).up u) (both (leb kind.else (f i).kind) (leb (f i).kind kind.end_if))

unfoldable pub is_end_if : (ℕ → Row) → ℕ → ℕ → Bool
is_end_if f u i = both (eqb (f i).up u) (eqb (f i).kind kind.end_if)

-- of c rows, the next arm of the `if` that row n belongs to, and its `end if`; c without any
unfoldable pub next_arm : (ℕ → Row) → ℕ → ℕ → ℕ
next_arm f c n = first_from (is_arm f (f n).up) (c - suc n) (suc n)

unfoldable pub end_if_of : (ℕ → Row) → ℕ → ℕ → ℕ
end_if_of f c n = first_from (is_end_if f (f n).up) (c - suc n) (suc n)

-- the row a false test goes to, m being the next arm: "to the next test of its `if`, else past the bare `else`, else to `end
-- if`"; the test of an `else if` line stands behind its jump
unfoldable pub past_arm : (ℕ → Row) → ℕ → ℕ
past_arm f m = if_eq (f m).kind kind.end_if m (suc m)

-- the target of row n; "Reaching `else` goes to `end if`", as does an else-if jump
unfoldable pub target_of : (ℕ → Row) → ℕ → ℕ → ℕ
target_of f c n = if_true (is_test (f n).kind) (past_arm f (next_arm f c n)) (end_if_of f c n)

-- a row whose target nesting gives
unfoldable pub has_target : ℕ → Bool
has_target k = if_true (is_test k) true (if_eq k kind.else true (eqb k kind.else_if))

-- ---- frames around a row

-- the blocks that row s, a frame, is in, itself included; as many as `fuel` at most
unfoldable pub depth_of : (ℕ → Row) → ℕ → ℕ → ℕ
depth_of f zero s = 0
depth_of f (suc fuel) s = if_eq (f s).kind kind.block (suc (depth_of f fuel (f s).scope)) 0

-- frame e is frame s or stands around it, at most `fuel` frames out
unfoldable pub encloses : (ℕ → Row) → ℕ → ℕ → ℕ → Bool
encloses f zero e s = eqb s e
encloses f (suc fuel) e s = if_eq s e true (if_eq (f s).kind kind.block (encloses f fuel e (f s).scope) false)
