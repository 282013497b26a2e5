-- Every row of an accepted source has its line.
-- Assumes nothing.
use mathlib.Core.Path.{◌≡◌, refl, sym, ◌∙◌, subst}
use mathlib.Core.List.{List, []}
use Prim.Native.Nat.{ℕ, suc, ◌+◌, ◌-◌, ◌*◌, ◌≤◌, ◌<◌, min}
use native.Mathlib.Decide.{ℕ_discrete}
use native.Mathlib.Nat.{min-eq_left}
use native.Mathlib.Omega.{arith}
use lib.ListN.{length, length-replicate}
use Rattle.base_prelude.specs.Fault.{none, least_of}
use Rattle.base_prelude.specs.Lists.{zeros}
use Rattle.base_prelude.specs.Walk.{Step, go, stop, walk}
use Rattle.base_prelude.proofs.Choice.{either, either-eq}
use Rattle.base_prelude.proofs.Walk.{Kept, walk_kept}
use Rattle.base_limits.specs.declared.Width.{Width}
use Rattle.lang_kinds.specs.Nesting.{rows_of, kind_of_word}
use Rattle.lang_kinds.proofs.RowCounts.{rows-two}
use Rattle.parse_lines.specs.Tokens.{word_at}
use Rattle.parse_lines.specs.Units.{unit_at}
use Rattle.parse_lines.specs.Lines.{line_kind}
use Rattle.parse_lines.specs.declared.Span.{Span}
use Rattle.parse_shapes.specs.Shapes.{operand_count}
use Rattle.parse_rules.specs.Rules.{shape_rule, tokens_rule, list_rule}
use Rattle.parse_units.specs.Outline.{row_at, row_in, put_row}
use Rattle.parse_units.specs.Places.{ground_in, line_faults, limit_faults, unit_fault}
use Rattle.parse_units.specs.Parse.{World, world, put_state, put_kind, grow_two, grow_by, join_state, advance, Result, parse_result, open_row, fault_in, unit_step_on, unit_step, begin, parse_from, parse_of}
use Rattle.parse_units.specs.Fits.{UnitStepFits}
use Rattle.parse_units.specs.declared.Row.{Row}
use Rattle.parse_units.specs.declared.State.{State}
use Rattle.std.proofs.Common.{Ok, Err}
use Rattle.parse_units.specs.Verdict.{Verdict}
use Rattle.parse_units.specs.Verdict as verdict
use Rattle.parse_units.proofs.Bounds.{unit-order, unit-next, line-some, clean-room, unit-clean}
use Rattle.parse_units.proofs.UnitSteps.{UnitStepGood, unit-step-good}
use Rattle.parse_outline.specs.Outline.{answer_of, outline_of, Outlined}
use Rattle.parse_outline.specs.Outline as outline
use Rattle.parse_outline.specs.Parsed.{Parsed}
use Rattle.parse_outline.specs.Parsed as answer
use Rattle.prog_tables.specs.Statement as statement
use Rattle.res_skeleton.specs.Skeleton.{skeleton_of, token_of, next_of}
use Rattle.res_skeleton.proofs.Laws.{kind-is, token-is, next-is}
use Rattle.res_scope.specs.Lines.{first_token, end_token}
use Rattle.thm_outline.specs.Lined.{Line, MadeOf, whole, jump, test, Lined}
use Rattle.thm_outline.proofs.Puts.{put-before, put_same, length-put}

-- ---- no fault in a unit

module _ (w : Width) (t : List ℕ) (n : ℕ) (u : Span) (k g : ℕ) (s : State) (c : none ≤ unit_fault w t n u k g s) where
  lines-clean : none ≤ least_of (line_faults w t n u k g s)
  unfolding unit_fault
  lines-clean = omega arith

  limits-clean : none ≤ least_of (limit_faults t n u k s)
  unfolding unit_fault
  limits-clean = omega arith

  shape-clean : none ≤ shape_rule w t n u k
  unfolding line_faults least_of
  shape-clean = omega (arith, lines-clean)

  tokens-clean : none ≤ tokens_rule t n u k
  unfolding limit_faults least_of
  tokens-clean = omega (arith, limits-clean)

  list-clean : none ≤ list_rule t n u k
  unfolding limit_faults least_of
  list-clean = omega (arith, limits-clean)

  -- a unit without a fault
  unit-line : (at : ℕ) → u ≡ unit_at t at → k ≡ line_kind t u.word → u.next ≤ 4097 → Line w t n u k
  unit-line at p q h =
      record { at = at; unit = p; kind = q; near = h; shape = shape-clean; tokens = tokens-clean; list = list-clean }

-- ---- the rows of a world

abbrev RowLined : Width → List ℕ → ℕ → Row → Type 0
RowLined w t n r = Lined w t n r.kind r.token r.next r.operands

abbrev AllLined : Width → List ℕ → ℕ → World → Type 0
AllLined w t n x = (m : ℕ) → 1 ≤ m → m < x.state.count → RowLined w t n (row_at x.table m)

module _ (w : Width) (t : List ℕ) (n : ℕ) where
  -- one row more
  row_more : (rows : List ℕ) (c : ℕ) (r : Row) → c * 8 + 8 ≤ length rows → ((m : ℕ) → 1 ≤ m → m < c → RowLined w t n (row_at rows m)) → RowLined w t n r
      → (m : ℕ) → 1 ≤ m → m < c + 1 → RowLined w t n (row_at (put_row rows c r) m)
  row_more rows c r h a b m l g =
      elim (ℕ_discrete m c) [
        | yes e ↦ subst (λ (i : ℕ). RowLined w t n (row_at (put_row rows c r) i)) (sym e) (subst (RowLined w t n) (sym (put_same rows c r h)) b)
        | no e ↦
            let f : m < c = omega arith in
            subst (RowLined w t n) (sym (put-before rows c r h m f)) (a m l f)
      ]

  row_made : (k m top : ℕ) (o : Row) (token next before operands : ℕ) → Lined w t n k token next operands → RowLined w t n (row_in k m top o token next before operands)
  unfolding row_in
  row_made k m top o token next before operands h = h

  kind-more : (k token next operands : ℕ) (x : World) → x.state.count ≤ 1024 → length x.table ≡ 8200 → AllLined w t n x → Lined w t n k token next operands
      → AllLined w t n (put_kind k token next operands x)
  unfolding put_kind put_state
  kind-more k token next operands x h l a b =
      row_more x.table x.state.count _ (omega arith) a (row_made k _ _ _ token next _ operands b)

  kind-long : (k token next operands : ℕ) (x : World) → x.state.count ≤ 1024 → length x.table ≡ 8200
      → (length (put_kind k token next operands x).table ≡ 8200) × ((put_kind k token next operands x).state.count ≡ x.state.count + 1)
  unfolding put_kind put_state
  kind-long k token next operands x h l = (length-put x.table x.state.count _ (omega arith) ∙ l, refl)

  two-more : (u : Span) (k : ℕ) (x : World) → x.state.count ≤ 1023 → length x.table ≡ 8200 → AllLined w t n x → k ≡ 21 → Line w t n u k
      → AllLined w t n (grow_two t u k x)
  unfolding grow_two
  two-more u k x h l a e b =
      let p : (length (put_kind k u.word (u.word + 1) 0 x).table ≡ 8200) × ((put_kind k u.word (u.word + 1) 0 x).state.count ≡ x.state.count + 1) = kind-long k u.word (u.word + 1) 0 x (omega arith) l in
      kind-more (kind_of_word (word_at t (u.word + 1))) (u.word + 1) u.next 2 (put_kind k u.word (u.word + 1) 0 x) (omega (arith, p.1)) p.0
      (kind-more k u.word (u.word + 1) 0 x (omega arith) l a (record { span = u; is = k; line = b; made = jump e e refl refl refl }))
      (record { span = u; is = k; line = b; made = test e refl refl refl refl })

  grow-more : (m : ℕ) (u : Span) (k : ℕ) (x : World) → m ≡ rows_of k → x.state.count + m ≤ 1025 → length x.table ≡ 8200 → AllLined w t n x → Line w t n u k
      → AllLined w t n (grow_by m t u k x)
  unfolding grow_by
  grow-more m u k x q h l a b =
      either-eq (AllLined w t n) m 0 _ _ (λ _. a) (λ f.
      either-eq (AllLined w t n) m 1 _ _
      (λ e. kind-more k u.word u.next (operand_count u) x (omega arith) l a (record { span = u; is = k; line = b; made = whole (sym q ∙ e) refl refl refl refl }))
      (λ g. two-more u k x (omega arith) l a (rows-two k (λ e. f (q ∙ e)) (λ e. g (q ∙ e))) b))

-- ---- the walk

abbrev Good : Width → List ℕ → ℕ → World → Type 0
Good w t n x = UnitStepFits t x.table x.state × (x.state.labels ≤ x.state.at) × AllLined w t n x

abbrev Answer : Width → List ℕ → ℕ → List ℕ → Verdict → Type 0
Answer w t n rows (Ok v) = (v.count ≤ 1025) × ((m : ℕ) → 1 ≤ m → m < v.count → RowLined w t n (row_at rows m))
Answer w t n rows (Err k) = Unit {0}

abbrev Led : Width → List ℕ → ℕ → Step World Result → Type 0
Led w t n (go x) = AllLined w t n x
Led w t n (stop r) = Answer w t n r.outline r.verdict

module _ (w : Width) (t : List ℕ) (n : ℕ) (x : World) (h : Good w t n x) where
  advance-lined : none ≤ fault_in w t n (unit_at t x.state.at) x → (line_kind t (unit_at t x.state.at).word ≡ 0 → ⊥)
      → AllLined w t n (advance t n (unit_at t x.state.at) (line_kind t (unit_at t x.state.at).word) x)
  unfolding advance join_state
  advance-lined c e =
      let i : (unit_at t x.state.at).word < 4096 = line-some t (unit_at t x.state.at).word h.0.tokens e in
      let r : rows_of (line_kind t (unit_at t x.state.at).word) ≤ 1025 - x.state.count = clean-room w t n (unit_at t x.state.at) (line_kind t (unit_at t x.state.at).word) (ground_in x.state (open_row x)) x.state (unit-clean w t n (unit_at t x.state.at) x c) in
      let b : Line w t n (unit_at t x.state.at) (line_kind t (unit_at t x.state.at).word) = unit-line w t n (unit_at t x.state.at) (line_kind t (unit_at t x.state.at).word) (ground_in x.state (open_row x)) x.state (unit-clean w t n (unit_at t x.state.at) x c) x.state.at refl refl (unit-next t x.state.at h.0.tokens (omega arith)) in
      grow-more w t n (rows_of (line_kind t (unit_at t x.state.at).word)) (unit_at t x.state.at) (line_kind t (unit_at t x.state.at).word) x refl (omega (arith, h.0.free)) h.0.long h.2 b

  unit-step-led : Led w t n (unit_step w t n x)
  unfolding unit_step unit_step_on
  unit-step-led =
      either (Led w t n) (fault_in w t n (unit_at t x.state.at) x) none _ _ (λ _. tt) (λ c.
      either-eq (Led w t n) (line_kind t (unit_at t x.state.at).word) 0 _ _ (λ _. (h.0.free, h.2)) (λ e. advance-lined c e))

  unit-step-lined : Kept (Good w t n) (λ (r : Result). Answer w t n r.outline r.verdict) (unit_step w t n x)
  unit-step-lined = by (unit_step w t n x) (unit-step-good w t n x.state x.table h.0 h.1) unit-step-led
    where
      by : (s : Step World Result) → UnitStepGood t x.state s → Led w t n s → Kept (Good w t n) (λ (r : Result). Answer w t n r.outline r.verdict) s
      by (go y) g f = (g.0.0, g.0.1, f)
      by (stop r) g f = f

begin-good : (w : Width) (t : List ℕ) (n : ℕ) → length t ≡ 32768 → Good w t n (world begin (zeros 8200))
begin-good w t n e = (
  record { tokens = e; long = length-replicate {A = ℕ} 8200 0; near = omega arith; few = omega arith; free = omega arith },
  omega arith,
  λ m l g. let z : ⊥ = omega arith in absurd z,
)

parse-lined : (w : Width) (t : List ℕ) (n : ℕ) → length t ≡ 32768 → Answer w t n (parse_of w t n).outline (parse_of w t n).verdict
unfolding parse_of parse_from
parse-lined w t n e =
    walk_kept (Good w t n) (λ (r : Result). Answer w t n r.outline r.verdict) (unit_step w t n) (parse_result (verdict.refused none) []) tt (unit-step-lined w t n)
    (suc (length t)) (world begin (zeros 8200)) (begin-good w t n e)

abbrev Told : Width → List ℕ → ℕ → List ℕ → Parsed → Type 0
Told w t n rows (Ok o) = (o.statements ≤ 1024) × ((m : ℕ) → m < o.statements → RowLined w t n (row_at rows (m + 1)))
Told w t n rows (Err r) = Unit {0}

answer-told : (w : Width) (t : List ℕ) (n : ℕ) (rows : List ℕ) (v : Verdict) → Answer w t n rows v → Told w t n rows (answer_of v)
unfolding answer_of
answer-told w t n rows (Ok v) h = (omega (arith, h.0), λ m g. h.1 (m + 1) (omega arith) (omega arith))
answer-told w t n rows (Err k) h = tt

outline-told : (w : Width) (t : List ℕ) (n : ℕ) → length t ≡ 32768 → Told w t n (outline_of w t n).rows (outline_of w t n).answer
unfolding outline_of
outline-told w t n e = answer-told w t n (parse_of w t n).outline (parse_of w t n).verdict (parse-lined w t n e)

-- ---- the rows of the skeleton

lined-near : (w : Width) (t : List ℕ) (n kind i e operands : ℕ) → Lined w t n kind i e operands → (i ≤ e) × (e ≤ 4097)
lined-near w t n kind i e operands h = by h.made
  where
    order : h.span.word < h.span.next
    order = subst (λ (u : Span). u.word < u.next) (sym h.line.unit) (unit-order t h.line.at).2

    by : MadeOf t h.span h.is kind i e operands → (i ≤ e) × (e ≤ 4097)
    by (whole a b c d f) = (omega (arith, order), omega (arith, h.line.near))
    by (jump a b c d f) = (omega arith, omega (arith, h.line.near, order))
    by (test a b c d f) = (omega (arith, order), omega (arith, h.line.near))

min-low : (a b c : ℕ) → a ≡ b → b ≤ c → min a c ≡ b
min-low a b c e h = min-eq_left (let z : a ≤ c = omega arith in z) ∙ e

module _ (w : Width) (t : List ℕ) (n c l : ℕ) (x y : List ℕ) (e : length t ≡ 32768) (h : outline_of w t n ≡ outline.parsed (answer.accepted c l) x y) where
  told : Told w t n x (answer.accepted c l)
  told = subst (λ (o : Outlined). Told w t n o.rows o.answer) h (outline-told w t n e)

  pub few-rows : c ≤ 1024
  few-rows = told.0

  module _ (m : ℕ) (g : m < c) where
    near : ((row_at x (m + 1)).token ≤ (row_at x (m + 1)).next) × ((row_at x (m + 1)).next ≤ 4097)
    near = lined-near w t n _ _ _ _ (told.1 m g)

    -- no token has a number above 4,096
    pub first-is : first_token (skeleton_of x c) m ≡ (row_at x (m + 1)).token
    unfolding first_token token_of
    first-is = min-low _ _ 4097 (token-is x c few-rows m g) (omega (arith, near.0, near.1))

    pub end_is : end_token (skeleton_of x c) m ≡ (row_at x (m + 1)).next
    unfolding end_token next_of
    end_is = min-low _ _ 4097 (next-is x c few-rows m g) near.1

    -- every row has its line
    pub row_line : Lined w t n (statement.row_at (skeleton_of x c) m).kind (first_token (skeleton_of x c) m) (end_token (skeleton_of x c) m) (row_at x (m + 1)).operands
    row_line = rw (kind-is x c few-rows m g, first-is, end_is) (told.1 m g)
