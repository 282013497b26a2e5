-- The rows that an accepted source leaves: read back, and alike the skeleton in what frames and nesting look at.
-- Assumes nothing.
use mathlib.Core.Path.{◌≡◌, refl, sym, ◌∙◌, ap, ap₂, subst}
use mathlib.Core.Bool.{Bool, true, false}
use mathlib.Core.List.{List, [], ◌∷◌}
use Prim.Native.Nat.{ℕ, zero, suc, ◌+◌, ◌*◌, ◌-◌, ◌≤◌, ◌<◌, min}
use native.Mathlib.Nat.{min-eq_left}
use native.Mathlib.Decide.{dec_lt, ℕ_discrete}
use native.Mathlib.Omega.{arith}
use lib.Dec.{eqb, ltb, leb}
use lib.ListN.{length, get_or, drop, replicate, length-replicate}
use lib.Seq.{get_or-drop}
use borrow.Author.Tests.{eq-eqb, ne_eqb}
use Rattle.base_prelude.specs.Choice.{if_lt, if_eq, if_true}
use Rattle.base_prelude.specs.Lists.{zeros}
use Rattle.base_prelude.proofs.Choice.{either, either-eq, either_true, if_eq-yes, if_eq-no, if_true-no, true-false}
use Rattle.base_limits.specs.declared.Width.{Width}
use Rattle.prog_tables.specs.Tests.{both, one_of}
use Rattle.prog_tables.specs.Statement.{Row, row_from, row_at, has_expression, is_test, is_call, used_by}
use Rattle.prog_tables.specs.Nesting.{stands}
use Rattle.prog_tables.specs.Layout.{operand_slots}
use Rattle.prog_tables.specs.WellFormed.{has_operands}
use Rattle.prog_tables.proofs.Rows.{Fits}
use Rattle.prog_tables.proofs.Nested.{Held, held}
use Rattle.parse_outline.specs.Outline.{Outlined, outline_of}
use Rattle.parse_outline.specs.Outline as outline
use Rattle.parse_outline.specs.Parsed as answer
use Rattle.parse_units.specs.Outline as parser
use Rattle.res_skeleton.specs.Skeleton.{parameters_of, skeleton_of}
use Rattle.res_skeleton.proofs.Laws.{word-behind, parameters-are, kind-is}
use Rattle.res_scope.specs.Lines.{first_token, end_token}
use Rattle.res_scope.specs.Parts.{parts_of}
use Rattle.res_frame_words.specs.Framing.{words_of}
use Rattle.res_rows.specs.Rows.{operands_from, bOf, row_with, row_of, statement_table}
use Rattle.thm_outline.proofs.Nested.{rows-stand}
use Rattle.thm_outline.proofs.Lines.{few-rows}
use Rattle.thm_outline.proofs.Rows.{kind_of, parts_at, row-shaped, row-idle, row-few, row-kind, function-parameters, callee-none}
use Rattle.thm_statement_rows.proofs.Calls.{used-expr}
use Rattle.thm_statement_rows.proofs.Views.{Alike}
use Rattle.thm_statement_rows.proofs.Readback.{row_back, table-behind, table-long}

zero-read : (n i : ℕ) → get_or (zeros n) i 0 ≡ 0
zero-read zero i = refl
zero-read (suc n) zero = refl
zero-read (suc n) (suc i) = zero-read n i

operands-long : (left : ℕ) (same : ℕ → ℕ → Bool) (t k y : List ℕ) (l : ℕ) (w z : List ℕ) (r i : ℕ) → length (operands_from left same t k y l w z r i) ≡ left
unfolding operands_from
operands-long zero same t k y l w z r i = refl
operands-long (suc left) same t k y l w z r i = ap suc (operands-long left same t k y l w z r (i + 1))

-- a kind without operands uses none, whatever its expression
idle-kinds : (v : ℕ) → v < 23 → has_operands v ≡ false → (e n : ℕ) → used_by v e n ≡ 0
unfolding has_operands has_expression is_test used_by is_call if_lt if_eq if_true
idle-kinds zero l h e n = refl
idle-kinds (suc zero) l h e n = refl
idle-kinds (suc (suc zero)) l h e n = refl
idle-kinds (suc (suc (suc zero))) l h e n = refl
idle-kinds (suc (suc (suc (suc zero)))) l h e n = refl
idle-kinds (suc (suc (suc (suc (suc zero))))) l h e n = true-false h
idle-kinds (suc (suc (suc (suc (suc (suc zero)))))) l h e n = true-false h
idle-kinds (suc (suc (suc (suc (suc (suc (suc zero))))))) l h e n = true-false h
idle-kinds (suc (suc (suc (suc (suc (suc (suc (suc zero)))))))) l h e n = true-false h
idle-kinds (suc (suc (suc (suc (suc (suc (suc (suc (suc zero))))))))) l h e n = true-false h
idle-kinds (suc (suc (suc (suc (suc (suc (suc (suc (suc (suc zero)))))))))) l h e n = refl
idle-kinds (suc (suc (suc (suc (suc (suc (suc (suc (suc (suc (suc zero))))))))))) l h e n = true-false h
idle-kinds (suc (suc (suc (suc (suc (suc (suc (suc (suc (suc (suc (suc zero)))))))))))) l h e n = true-false h
idle-kinds (suc (suc (suc (suc (suc (suc (suc (suc (suc (suc (suc (suc (suc zero))))))))))))) l h e n = true-false h
idle-kinds (suc (suc (suc (suc (suc (suc (suc (suc (suc (suc (suc (suc (suc (suc zero)))))))))))))) l h e n = true-false h
idle-kinds (suc (suc (suc (suc (suc (suc (suc (suc (suc (suc (suc (suc (suc (suc (suc zero))))))))))))))) l h e n = true-false h
idle-kinds (suc (suc (suc (suc (suc (suc (suc (suc (suc (suc (suc (suc (suc (suc (suc (suc zero)))))))))))))))) l h e n = true-false h
idle-kinds (suc (suc (suc (suc (suc (suc (suc (suc (suc (suc (suc (suc (suc (suc (suc (suc (suc zero))))))))))))))))) l h e n = true-false h
idle-kinds (suc (suc (suc (suc (suc (suc (suc (suc (suc (suc (suc (suc (suc (suc (suc (suc (suc (suc zero)))))))))))))))))) l h e n = true-false h
idle-kinds (suc (suc (suc (suc (suc (suc (suc (suc (suc (suc (suc (suc (suc (suc (suc (suc (suc (suc (suc zero))))))))))))))))))) l h e n = true-false h
idle-kinds (suc (suc (suc (suc (suc (suc (suc (suc (suc (suc (suc (suc (suc (suc (suc (suc (suc (suc (suc (suc zero)))))))))))))))))))) l h e n = refl
idle-kinds (suc (suc (suc (suc (suc (suc (suc (suc (suc (suc (suc (suc (suc (suc (suc (suc (suc (suc (suc (suc (suc zero))))))))))))))))))))) l h e n = refl
idle-kinds (suc (suc (suc (suc (suc (suc (suc (suc (suc (suc (suc (suc (suc (suc (suc (suc (suc (suc (suc (suc (suc (suc zero)))))))))))))))))))))) l h e n = refl
idle-kinds (suc (suc (suc (suc (suc (suc (suc (suc (suc (suc (suc (suc (suc (suc (suc (suc (suc (suc (suc (suc (suc (suc (suc v))))))))))))))))))))))) l h e n = let z : ⊥ = omega arith in absurd z

module _ (w : Width) (t : List ℕ) (n c l : ℕ) (x y : List ℕ) (long : length t ≡ 32768) (oh : outline_of w t n ≡ outline.parsed (answer.accepted c l) x y) where
  pub few-statements : c ≤ 1024
  few-statements = few-rows w t n c l x y long oh

  pub stand : (m : ℕ) → m < c → stands (row_at (skeleton_of x c)) m ≡ true
  stand m h =
      subst (λ (v : List ℕ). stands (row_at (skeleton_of v c)) m ≡ true) (ap (λ (o : Outlined). o.rows) oh)
      (rows-stand w t n c l long (ap (λ (o : Outlined). o.answer) oh) m h)

  -- a row is in a function
  pub in-function : (m : ℕ) → m < c → ((row_at (skeleton_of x c) m).func < c) × ((row_at (skeleton_of x c) (row_at (skeleton_of x c) m).func).kind ≡ 1)
  in-function m h = let v = held (row_at (skeleton_of x c)) c stand c (omega arith) m h in (omega (arith, v.before, h), v.is-function)

  zero-behind : (i j : ℕ) → c ≤ i → get_or (skeleton_of x c) (i * 27 + j) 0 ≡ 0
  zero-behind i j h = word-behind x c few-statements (i * 27 + j) (omega arith)

  parameters-behind : (i : ℕ) → c ≤ i → (row_at (skeleton_of x c) i).b ≡ 0
  unfolding row_at row_from
  parameters-behind i h = zero-behind i 5 h

  pub parameters-other : (i : ℕ) → i < c → ((row_at (skeleton_of x c) i).kind ≡ 1 → ⊥) → (row_at (skeleton_of x c) i).b ≡ 0
  unfolding parameters_of
  parameters-other i h d = parameters-are x c few-statements i h ∙ if_eq-no _ _ (λ e. d (kind-is x c few-statements i h ∙ e))

  -- "parameters and arguments 8"
  pub few-parameters : (i : ℕ) → (row_at (skeleton_of x c) i).b ≤ 8
  few-parameters i =
      elim (dec_lt i c) [
        | yes h ↦ elim (ℕ_discrete (row_at (skeleton_of x c) i).kind 1) [
          | yes e ↦ let p = function-parameters w t n c l x y long oh i h e in omega (arith, p.0, p.1)
          | no d ↦ let q = parameters-other i h d in omega (arith, q)
        ]
        | no h ↦ let q = parameters-behind i (omega arith) in omega (arith, q)
      ]

  -- as many operands as the row's kind and expression use
  row-uses : (r : ℕ) → r < c
      → used_by (kind_of (skeleton_of x c) r) (parts_at t (skeleton_of x c) r).expr (end_token (skeleton_of x c) r - (parts_at t (skeleton_of x c) r).first)
      ≡ end_token (skeleton_of x c) r - (parts_at t (skeleton_of x c) r).first
  row-uses r h = by (has_operands (kind_of (skeleton_of x c) r)) refl
    where
      by : (b : Bool) → has_operands (kind_of (skeleton_of x c) r) ≡ b
          → used_by (kind_of (skeleton_of x c) r) (parts_at t (skeleton_of x c) r).expr (end_token (skeleton_of x c) r - (parts_at t (skeleton_of x c) r).first)
          ≡ end_token (skeleton_of x c) r - (parts_at t (skeleton_of x c) r).first
      by true e = row-shaped w t n c l x y long oh r h e
      by false e =
          idle-kinds (kind_of (skeleton_of x c) r) (row-kind w t n c l x y long oh r h).1 e _ _ ∙ sym (row-idle w t n c l x y long oh r h e)

  module _ (same : ℕ → ℕ → Bool) (z : List ℕ) (m : ℕ) (room : c * 27 ≤ m) where
    abbrev table : List ℕ
    table = statement_table same t (skeleton_of x c) y l (words_of (row_at (skeleton_of x c)) c) z c (zeros m)

    pub fits : (r : ℕ) → r < c → Fits (row_of same t (skeleton_of x c) y l (words_of (row_at (skeleton_of x c)) c) z c r)
    unfolding row_of row_with
    fits r h =
        let k = skeleton_of x c in
        let p = parts_at t k r in
        let few = row-few w t n c l x y long oh r h in
        let a : length (operands_from (min (end_token k r - p.first) 8) same t k y l (words_of (row_at k) c) z r p.first) ≡ end_token k r - p.first =
        operands-long (min (end_token k r - p.first) 8) same t k y l (words_of (row_at k) c) z r p.first ∙ min-eq_left few in
        let q = used-expr same k y l r (kind_of k r) p (callee-none w t n c l x y long oh r h) (end_token k r - p.first) in
        record { used = a ∙ sym (row-uses r h) ∙ sym q; few = omega (arith, a, few) }

    pub back : (r : ℕ) → r < c → row_at table r ≡ row_of same t (skeleton_of x c) y l (words_of (row_at (skeleton_of x c)) c) z c r
    back r h =
        let e = length-replicate {A = ℕ} m 0 in
        row_back same t (skeleton_of x c) y l (words_of (row_at (skeleton_of x c)) c) z c (zeros m) (omega (arith, e)) r h (fits r h)

    behind-zero : (i j : ℕ) → c ≤ i → get_or table (i * 27 + j) 0 ≡ 0
    behind-zero i j h =
        let e = length-replicate {A = ℕ} m 0 in
        let q : c * 27 + (i * 27 + j - c * 27) ≡ i * 27 + j = omega arith in
        ap (λ (v : ℕ). get_or table v 0) (sym q)
        ∙ sym (get_or-drop (c * 27) table (i * 27 + j - c * 27) 0)
        ∙ ap (λ (v : List ℕ). get_or v (i * 27 + j - c * 27) 0) (table-behind same t (skeleton_of x c) y l (words_of (row_at (skeleton_of x c)) c) z c (zeros m) (omega (arith, e)))
        ∙ get_or-drop (c * 27) (zeros m) (i * 27 + j - c * 27) 0
        ∙ zero-read m (c * 27 + (i * 27 + j - c * 27))

    field_alike : (q : Row → ℕ) → ((r : ℕ) → r < c → q (row_of same t (skeleton_of x c) y l (words_of (row_at (skeleton_of x c)) c) z c r) ≡ q (row_at (skeleton_of x c) r))
        → ((i : ℕ) → c ≤ i → q (row_at table i) ≡ q (row_at (skeleton_of x c) i)) → (i : ℕ) → q (row_at table i) ≡ q (row_at (skeleton_of x c) i)
    field_alike q a b i = elim (dec_lt i c) [ yes h ↦ ap q (back i h) ∙ a i h | no h ↦ b i (omega arith) ]

    kind-behind : (i : ℕ) → c ≤ i → (row_at table i).kind ≡ (row_at (skeleton_of x c) i).kind
    unfolding row_at row_from
    kind-behind i h =
        let e : i * 27 + 0 ≡ i * 27 = omega arith in
        ap (λ (v : ℕ). get_or table v 0) (sym e) ∙ behind-zero i 0 h ∙ sym (ap (λ (v : ℕ). get_or (skeleton_of x c) v 0) (sym e) ∙ zero-behind i 0 h)

    func-behind : (i : ℕ) → c ≤ i → (row_at table i).func ≡ (row_at (skeleton_of x c) i).func
    unfolding row_at row_from
    func-behind i h = behind-zero i 1 h ∙ sym (zero-behind i 1 h)

    scope-behind : (i : ℕ) → c ≤ i → (row_at table i).scope ≡ (row_at (skeleton_of x c) i).scope
    unfolding row_at row_from
    scope-behind i h = behind-zero i 2 h ∙ sym (zero-behind i 2 h)

    up-behind : (i : ℕ) → c ≤ i → (row_at table i).up ≡ (row_at (skeleton_of x c) i).up
    unfolding row_at row_from
    up-behind i h = behind-zero i 3 h ∙ sym (zero-behind i 3 h)

    b-behind : (i : ℕ) → c ≤ i → (row_at table i).b ≡ (row_at (skeleton_of x c) i).b
    unfolding row_at row_from
    b-behind i h = behind-zero i 5 h ∙ sym (zero-behind i 5 h)

    kind_row : (r : ℕ) → r < c → (row_of same t (skeleton_of x c) y l (words_of (row_at (skeleton_of x c)) c) z c r).kind ≡ (row_at (skeleton_of x c) r).kind
    unfolding row_of row_with
    kind_row r h = refl

    func-row : (r : ℕ) → r < c → (row_of same t (skeleton_of x c) y l (words_of (row_at (skeleton_of x c)) c) z c r).func ≡ (row_at (skeleton_of x c) r).func
    unfolding row_of row_with
    func-row r h = refl

    scope-row : (r : ℕ) → r < c → (row_of same t (skeleton_of x c) y l (words_of (row_at (skeleton_of x c)) c) z c r).scope ≡ (row_at (skeleton_of x c) r).scope
    unfolding row_of row_with
    scope-row r h = refl

    up-row : (r : ℕ) → r < c → (row_of same t (skeleton_of x c) y l (words_of (row_at (skeleton_of x c)) c) z c r).up ≡ (row_at (skeleton_of x c) r).up
    unfolding row_of row_with
    up-row r h = refl

    b-row : (r : ℕ) → r < c → ((row_at (skeleton_of x c) r).kind ≡ 3 → ⊥) → (row_of same t (skeleton_of x c) y l (words_of (row_at (skeleton_of x c)) c) z c r).b ≡ (row_at (skeleton_of x c) r).b
    unfolding row_of row_with bOf
    b-row r h d =
        elim (ℕ_discrete (row_at (skeleton_of x c) r).kind 1) [
          | yes e ↦ if_eq-yes _ _ e
          | no e ↦ if_eq-no _ _ e ∙ if_eq-no _ _ d ∙ sym (parameters-other r h e)
        ]

    kinds-alike : (i : ℕ) → (row_at table i).kind ≡ (row_at (skeleton_of x c) i).kind
    kinds-alike i = field_alike (λ (v : Row). v.kind) kind_row kind-behind i

    -- the finished rows and the skeleton
    pub alike : Alike (row_at table) (row_at (skeleton_of x c))
    alike =
        record {
          kinds = kinds-alike;
          funcs = field_alike (λ (v : Row). v.func) func-row func-behind;
          scopes = field_alike (λ (v : Row). v.scope) scope-row scope-behind;
          ups = field_alike (λ (v : Row). v.up) up-row up-behind;
          counts = λ i d. elim (dec_lt i c) [
            | yes h ↦ ap (λ (v : Row). v.b) (back i h) ∙ b-row i h (λ e. d (kinds-alike i ∙ e))
            | no h ↦ b-behind i (omega arith)
          ];
        }
