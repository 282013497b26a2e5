-- The rows of an accepted source stand in the order of its tokens: each ends at or before the magic word of the next.
-- Assumes nothing.
use mathlib.Core.Path.{◌≡◌, refl, sym, ◌∙◌, ap, subst}
use mathlib.Core.List.{List, []}
use Prim.Native.Nat.{ℕ, suc, ◌+◌, ◌-◌, ◌*◌, ◌≤◌, ◌<◌}
use native.Mathlib.Decide.{dec_lt, ℕ_discrete}
use native.Mathlib.Omega.{arith}
use lib.ListN.{length, length-replicate}
use Rattle.base_prelude.specs.Fault.{none}
use Rattle.base_prelude.specs.Lists.{zeros}
use Rattle.base_prelude.specs.Walk.{Step, go, stop, walk}
use Rattle.base_prelude.proofs.Choice.{either, either-eq}
use Rattle.base_prelude.proofs.Walk.{Kept, walk_kept}
use Rattle.base_limits.specs.declared.Width.{Width}
use Rattle.lang_kinds.specs.Nesting.{rows_of, kind_of_word}
use Rattle.lang_kinds.proofs.RowCounts.{rows_few}
use Rattle.parse_lines.specs.Tokens.{word_at}
use Rattle.parse_lines.specs.Units.{unit_at}
use Rattle.parse_lines.specs.Lines.{line_kind}
use Rattle.parse_lines.specs.declared.Span.{Span}
use Rattle.parse_shapes.specs.Shapes.{operand_count}
use Rattle.parse_units.specs.Outline.{row_at, row_in, put_row}
use Rattle.parse_units.specs.Places.{ground_in}
use Rattle.parse_units.specs.Parse.{World, world, put_state, put_kind, grow_two, grow_by, join_state, state_behind, advance, Result, parse_result, open_row, fault_in, unit_step_on, unit_step, begin, parse_from, parse_of}
use Rattle.parse_units.specs.Fits.{UnitStepFits}
use Rattle.parse_units.specs.declared.Row.{Row}
use Rattle.std.proofs.Common.{Ok, Err}
use Rattle.parse_units.specs.Verdict.{Verdict}
use Rattle.parse_units.specs.Verdict as verdict
use Rattle.parse_units.proofs.Bounds.{unit-order, line-some, clean-room, unit-clean}
use Rattle.parse_units.proofs.UnitSteps.{UnitStepGood, unit-step-good}
use Rattle.parse_outline.specs.Outline.{answer_of, outline_of, Outlined}
use Rattle.parse_outline.specs.Outline as outline
use Rattle.parse_outline.specs.Parsed.{Parsed}
use Rattle.parse_outline.specs.Parsed as answer
use Rattle.res_skeleton.specs.Skeleton.{skeleton_of}
use Rattle.res_scope.specs.Lines.{first_token, end_token}
use Rattle.thm_outline.proofs.Puts.{put-before, put_same, length-put}
use Rattle.thm_outline.proofs.Lines.{first-is, end_is}

-- the rows before row c are in order, and the last ends at or before token a
record Ordered (rows : List ℕ) (c a : ℕ) : Type 0 where
  pub steps : (m : ℕ) → 1 ≤ m → m + 1 < c → (row_at rows m).next ≤ (row_at rows (m + 1)).token
  pub last : (m : ℕ) → 1 ≤ m → m + 1 ≡ c → (row_at rows m).next ≤ a

ordered-on : (rows : List ℕ) (c a b : ℕ) → a ≤ b → Ordered rows c a → Ordered rows c b
ordered-on rows c a b l h = record { steps = h.steps; last = λ m p e. omega (arith, h.last m p e) }

module _ (rows : List ℕ) (c a : ℕ) (r : Row) (h : c * 8 + 8 ≤ length rows) (l : a ≤ r.token) (o : Ordered rows c a) where
  before-is : (m : ℕ) → m < c → row_at (put_row rows c r) m ≡ row_at rows m
  before-is m g = put-before rows c r h m g

  here-is : (m : ℕ) → m ≡ c → row_at (put_row rows c r) m ≡ r
  here-is m e = ap (row_at (put_row rows c r)) e ∙ put_same rows c r h

  ordered-put : Ordered (put_row rows c r) (c + 1) r.next
  ordered-put =
      record {
        steps = λ m p g.
            let b = ap (λ (x : Row). x.next) (before-is m (omega arith)) in
            elim (dec_lt (m + 1) c) [
              | yes f ↦ omega (arith, b, ap (λ (x : Row). x.token) (before-is (m + 1) f), o.steps m p f)
              | no f ↦ let e : m + 1 ≡ c = omega arith in omega (arith, b, ap (λ (x : Row). x.token) (here-is (m + 1) e), o.last m p e)
            ];
        last = λ m p e. omega (arith, ap (λ (x : Row). x.next) (here-is m (omega arith)));
      }

abbrev InOrder : ℕ → World → Type 0
InOrder a y = Ordered y.table y.state.count a

module _ (t : List ℕ) where
  kind-order : (k token next operands a : ℕ) (y : World) → y.state.count ≤ 1024 → length y.table ≡ 8200 → a ≤ token → InOrder a y
      → InOrder next (put_kind k token next operands y)
  unfolding put_kind put_state row_in
  kind-order k token next operands a y h l b o =
      ordered-put y.table y.state.count a (row_in k y.state.count y.state.top (row_at y.table y.state.top) token next y.state.locals operands) (omega arith) b o

  kind-long : (k token next operands : ℕ) (y : World) → y.state.count ≤ 1024 → length y.table ≡ 8200
      → (length (put_kind k token next operands y).table ≡ 8200) × ((put_kind k token next operands y).state.count ≡ y.state.count + 1)
  unfolding put_kind put_state
  kind-long k token next operands y h l = (length-put y.table y.state.count _ (omega arith) ∙ l, refl)

  grow-order : (m : ℕ) (u : Span) (k a : ℕ) (y : World) → y.state.count + m ≤ 1025 → m ≤ 2 → length y.table ≡ 8200 → a ≤ u.word → u.word < u.next → InOrder a y
      → InOrder u.next (grow_by m t u k y)
  unfolding grow_by grow_two
  grow-order m u k a y h f l b d o =
      either-eq (InOrder u.next) m 0 _ _ (λ _. ordered-on y.table y.state.count a u.next (omega arith) o) (λ p.
      either-eq (InOrder u.next) m 1 _ _ (λ e. kind-order k u.word u.next (operand_count u) a y (omega arith) l b o) (λ q.
      let g = kind-long k u.word (u.word + 1) 0 y (omega arith) l in
      kind-order (kind_of_word (word_at t (u.word + 1))) (u.word + 1) u.next 2 (u.word + 1) (put_kind k u.word (u.word + 1) 0 y) (omega (arith, g.1)) g.0 (omega arith)
      (kind-order k u.word (u.word + 1) 0 a y (omega arith) l b o)))

-- ---- the walk

abbrev Good : List ℕ → World → Type 0
Good t y = UnitStepFits t y.table y.state × (y.state.labels ≤ y.state.at) × InOrder y.state.at y

abbrev Answer : List ℕ → Verdict → Type 0
Answer rows (Ok x) = (m : ℕ) → 1 ≤ m → m + 1 < x.count → (row_at rows m).next ≤ (row_at rows (m + 1)).token
Answer rows (Err k) = Unit {0}

abbrev Led : Step World Result → Type 0
Led (go y) = InOrder y.state.at y
Led (stop r) = Answer r.outline r.verdict

module _ (w : Width) (t : List ℕ) (n : ℕ) (y : World) (h : Good t y) where
  advance-order : none ≤ fault_in w t n (unit_at t y.state.at) y
      → InOrder (unit_at t y.state.at).next (advance t n (unit_at t y.state.at) (line_kind t (unit_at t y.state.at).word) y)
  unfolding advance join_state
  advance-order c =
      let o = unit-order t y.state.at in
      let r : rows_of (line_kind t (unit_at t y.state.at).word) ≤ 1025 - y.state.count = clean-room w t n (unit_at t y.state.at) (line_kind t (unit_at t y.state.at).word) (ground_in y.state (open_row y)) y.state (unit-clean w t n (unit_at t y.state.at) y c) in
      grow-order t (rows_of (line_kind t (unit_at t y.state.at).word)) (unit_at t y.state.at) (line_kind t (unit_at t y.state.at).word) y.state.at y (omega (arith, h.0.free)) (rows_few (line_kind t (unit_at t y.state.at).word)) h.0.long (omega (arith, o.0, o.1)) o.2 h.2

  at-is : (advance t n (unit_at t y.state.at) (line_kind t (unit_at t y.state.at).word) y).state.at ≡ (unit_at t y.state.at).next
  unfolding advance join_state state_behind
  at-is = refl

  unit-step-led : Led (unit_step w t n y)
  unfolding unit_step unit_step_on
  unit-step-led =
      either Led (fault_in w t n (unit_at t y.state.at) y) none _ _ (λ _. tt) (λ c.
      either-eq Led (line_kind t (unit_at t y.state.at).word) 0 _ _ (λ _. h.2.steps)
      (λ e. subst (λ (a : ℕ). InOrder a (advance t n (unit_at t y.state.at) (line_kind t (unit_at t y.state.at).word) y)) (sym at-is) (advance-order c)))

  unit-step-kept : Kept (Good t) (λ (r : Result). Answer r.outline r.verdict) (unit_step w t n y)
  unit-step-kept = by (unit_step w t n y) (unit-step-good w t n y.state y.table h.0 h.1) unit-step-led
    where
      by : (s : Step World Result) → UnitStepGood t y.state s → Led s → Kept (Good t) (λ (r : Result). Answer r.outline r.verdict) s
      by (go z) g f = (g.0.0, g.0.1, f)
      by (stop r) g f = f

begin-good : (t : List ℕ) → length t ≡ 32768 → Good t (world begin (zeros 8200))
begin-good t e = (
  record { tokens = e; long = length-replicate {A = ℕ} 8200 0; near = omega arith; few = omega arith; free = omega arith },
  omega arith,
  record { steps = λ m p g. let z : ⊥ = omega arith in absurd z; last = λ m p g. let z : ⊥ = omega arith in absurd z },
)

parse-order : (w : Width) (t : List ℕ) (n : ℕ) → length t ≡ 32768 → Answer (parse_of w t n).outline (parse_of w t n).verdict
unfolding parse_of parse_from
parse-order w t n e =
    walk_kept (Good t) (λ (r : Result). Answer r.outline r.verdict) (unit_step w t n) (parse_result (verdict.refused none) []) tt (unit-step-kept w t n) (suc (length t)) (world begin (zeros 8200)) (begin-good t e)

abbrev Told : List ℕ → Parsed → Type 0
Told rows (Ok x) = (m : ℕ) → m + 1 < x.statements → (row_at rows (m + 1)).next ≤ (row_at rows (m + 2)).token
Told rows (Err r) = Unit {0}

answer-told : (rows : List ℕ) (v : Verdict) → Answer rows v → Told rows (answer_of v)
unfolding answer_of
answer-told rows (Ok x) h =
    λ m g. let e : m + 1 + 1 ≡ m + 2 = omega arith in subst (λ (i : ℕ). (row_at rows (m + 1)).next ≤ (row_at rows i).token) e (h (m + 1) (omega arith) (omega arith))
answer-told rows (Err k) h = tt

outline-told : (w : Width) (t : List ℕ) (n : ℕ) → length t ≡ 32768 → Told (outline_of w t n).rows (outline_of w t n).answer
unfolding outline_of
outline-told w t n e = answer-told (parse_of w t n).outline (parse_of w t n).verdict (parse-order w t n e)

-- of the skeleton's rows
module _ (w : Width) (t : List ℕ) (n c l : ℕ) (x y : List ℕ) (e : length t ≡ 32768) (h : outline_of w t n ≡ outline.parsed (answer.accepted c l) x y) where
  told : Told x (answer.accepted c l)
  told = subst (λ (o : Outlined). Told o.rows o.answer) h (outline-told w t n e)

  pub rows-ordered : (m : ℕ) → m + 1 < c → end_token (skeleton_of x c) m ≤ first_token (skeleton_of x c) (m + 1)
  rows-ordered m g =
      let i : m + 1 + 1 ≡ m + 2 = omega arith in
      let s : first_token (skeleton_of x c) (m + 1) ≡ (row_at x (m + 2)).token = first-is w t n c l x y e h (m + 1) g ∙ ap (λ (v : ℕ). (row_at x v).token) i in
      omega (arith, end_is w t n c l x y e h m (omega arith), s, told m g)
